-- Laws of the entries of an array.
pub mod EntryLaws
