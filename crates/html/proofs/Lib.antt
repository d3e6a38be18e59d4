pub mod ShareLaws
pub mod Examples
pub mod ExamplesPage
pub mod PageTreeLaws
pub mod TagLaws
pub mod PageReadLaws
pub mod EscapingLaws
pub mod PageLengthLaws
