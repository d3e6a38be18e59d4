-- The columns of a text.
pub mod WalkLaws
