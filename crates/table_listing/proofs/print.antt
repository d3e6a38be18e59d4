-- Laws of cells in print.
pub mod TextLaws
pub mod CellLaws
