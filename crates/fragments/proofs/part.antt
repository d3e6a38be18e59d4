-- Laws of the part between the borders.
pub mod FirstLaws
pub mod PartLaws
