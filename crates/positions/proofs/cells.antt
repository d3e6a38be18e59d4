-- Laws of the positions of cells.
pub mod RectLaws
