pub mod SplitLaws
pub mod SheetLaws
