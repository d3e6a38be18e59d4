-- Laws of the search for a rectangle.
pub mod SearchLaws
