-- Laws of the lines of a text.
pub mod ColumnLaws
pub mod TrimmedLaws
