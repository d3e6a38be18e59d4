-- Laws of row and column lines.
pub mod EdgeLaws
