-- Laws of the corners of a cell and of all cells.
pub mod CornerLaws
