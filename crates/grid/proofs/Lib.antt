-- Computed examples: the calls' answers and arrays, reading, cutting.
pub mod AnswerExamples
pub mod ArrayExamples
pub mod Examples
pub mod ExamplesCutting
-- Slots, lines and their bytes.
pub mod SlotLaws
pub mod ByteLaws
pub mod SpanSlotLaws
pub mod GlyphLaws
-- First bordered rectangles, the skyline and tracing; main theorems: a layout is the only cover.
pub mod RectangleLaws
pub mod SkylineLaws
pub mod TraceLaws
pub mod CoverLaws
pub mod CoverTheorems
pub mod TileLaws
-- The layout read from a cover: its lines, sections, separators and sizes.
pub mod LayoutLaws
pub mod SectionLaws
pub mod SeparatorLaws
pub mod SizeLaws
pub mod SquareSums
-- Cut lines and cells.
pub mod CutLaws
pub mod CellLaws
pub mod CellTexts
pub mod DrawnLineLaws
-- The flat form, taken apart.
pub mod FlatLaws
pub mod FlatTableLaws
pub mod FlatDrawingLaws
-- Reading and its refusals; main theorems: what each call answers is the only cover, its 6 none, its 7 a 1,025th.
pub mod AnswerLaws
pub mod ReadLaws
pub mod RebuiltLaws
pub mod CallTheorems
-- Main theorem: two tables are the same exactly when their parts are.
pub mod SameLaws
