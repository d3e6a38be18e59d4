-- Laws of levels, of squares and of the skyline.
pub mod LevelLaws
pub mod SquareLaws
pub mod CoverLaws
