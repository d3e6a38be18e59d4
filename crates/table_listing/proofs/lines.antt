-- Laws of the cells of a drawing's lines.
pub mod ListedLaws
