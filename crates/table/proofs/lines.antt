-- Laws of the writing of all lines.
pub mod WriteLaws
