-- Laws of the writing of cut lines.
pub mod WriteLaws
