-- Laws of the search for the last end.
pub mod SearchLaws
