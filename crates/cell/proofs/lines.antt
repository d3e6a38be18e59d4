-- Laws of the writing of lines.
pub mod WriteLaws
