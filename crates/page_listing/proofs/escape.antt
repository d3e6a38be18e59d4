-- Laws of escaping: a byte and a line, the lines of a cell, all cells.
pub mod ByteLaws
pub mod LineLaws
pub mod CellLaws
