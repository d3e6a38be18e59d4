-- Laws of the borders of a cell and of all cells.
pub mod SideLaws
pub mod EndLaws
pub mod BorderLaws
