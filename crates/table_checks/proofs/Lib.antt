pub mod WalkLaws
pub mod LineLaws
pub mod PlaceLaws
pub mod CheckLaws
