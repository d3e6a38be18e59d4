pub mod Examples
pub mod ExamplesLineEnds
pub mod LineEndLaws
pub mod RegisterLaws
pub mod LineEndTheorems
