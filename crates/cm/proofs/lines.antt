-- The lines of a drawing.
pub mod LineLaws
pub mod WalkLineLaws
pub mod InnerLaws
pub mod TurnLaws
