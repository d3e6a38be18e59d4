-- Arrays as lists: rectangles of four entries, a grid of glyphs, the rows of slots.
pub mod RectsLaws
pub mod ArrayLaws
pub mod HoldsLaws
-- A call's answer is that of its parts in turn.
pub mod LayoutPartsLaws
pub mod TablePartsLaws
-- What is written is the layout, and the table, that the drawing reads as.
pub mod HeldLaws
pub mod RectsHeld
pub mod AgreeLaws
pub mod TracedLaws
pub mod TableEntryLaws
-- A table in the arrays that redraw is lent.
pub mod TableInLaws
