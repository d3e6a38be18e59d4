pub mod ThroughLaws
pub mod CheckedLaws
pub mod WidthLaws
pub mod ReadingLaws
pub mod SheetLaws
