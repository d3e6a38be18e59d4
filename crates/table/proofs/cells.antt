-- Laws of the entries of cells.
pub mod WriteLaws
