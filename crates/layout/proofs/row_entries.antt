-- Laws of the entries of rows.
pub mod RowEntryLaws
