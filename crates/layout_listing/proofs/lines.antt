-- Laws of the listing of a drawing's lines.
pub mod SizeLaws
pub mod ListedLaws
