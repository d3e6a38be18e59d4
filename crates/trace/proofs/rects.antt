-- Laws of the entries of a rectangle.
pub mod PlacingLaws
