-- Slots of the canvas, what the cells put at each, and the picture that they make.
pub mod SlotLaws
pub mod PartLaws
pub mod CellSlots
pub mod PictureLaws
-- Corners of a table's alignment line at marked column lines.
pub mod MarkLaws
