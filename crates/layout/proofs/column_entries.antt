-- Laws of the entries of columns.
pub mod ColumnEntryLaws
