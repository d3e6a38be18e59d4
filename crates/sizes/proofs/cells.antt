-- Laws of how many lines and columns cells have.
pub mod SizeLaws
pub mod CountLaws
