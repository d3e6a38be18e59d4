-- Laws of a table's page, printed.
pub mod PagedLaws
