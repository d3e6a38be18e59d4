-- Laws of the colons of a column and of all columns.
pub mod ColonLaws
