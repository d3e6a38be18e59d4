-- Cells that would be read as two.
pub mod HitLaws
pub mod HitLinesLaws
pub mod ColumnLaws
pub mod SplitLaws
pub mod CellLaws
pub mod FirstLaws
