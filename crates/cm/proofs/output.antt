-- The lines of a drawing.
pub mod OutputLaws
