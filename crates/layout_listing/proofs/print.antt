-- Laws of the lines of a listing.
pub mod LineLaws
pub mod TableLaws
