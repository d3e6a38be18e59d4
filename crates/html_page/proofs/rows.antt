-- The rows of a page.
pub mod EdgeLaws
pub mod RowLaws
