-- A checked and measured table is the canvas that drawing asks for.
pub mod SketchLaws
-- The call's answer is that of its parts in turn.
pub mod TableLaws
pub mod CallLaws
