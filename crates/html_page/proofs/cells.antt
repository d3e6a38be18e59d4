-- A cell on the page.
pub mod CellLaws
