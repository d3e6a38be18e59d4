-- Laws of the sections of rows.
pub mod WriteLaws
