-- Laws of the slots of all lines.
pub mod NextLaws
pub mod SheetLaws
