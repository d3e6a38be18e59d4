-- Laws of the cut lines of a cell, and their sizes.
pub mod PieceLaws
pub mod MeasureLaws
pub mod LineLaws
pub mod TotalLaws
