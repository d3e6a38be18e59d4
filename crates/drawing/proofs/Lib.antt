-- Computed examples: refusals, the calls' arrays, sizes and drawing, with the tables that they share.
pub mod AnswerExamples
pub mod ArrayExamples
pub mod ExamplesTables
pub mod Examples
-- Sizes: columns and their measure, widths and heights, where borders stand.
pub mod MeasureLaws
pub mod FitLaws
pub mod OffsetLaws
-- The limits and the grid rules, as facts of a table.
pub mod LimitLaws
pub mod KeptLaws
pub mod SectionOrder
-- A table read keeps the grid rules and the limits.
pub mod ReadRules
pub mod ReadLimits
-- Main theorem: under the grid rules two tables are the same exactly when they look the same.
pub mod CellPlaces
pub mod SameLaws
-- A canvas: boxes that hold each square once, a drawn line from border to border, which lines are rules.
pub mod BoxLaws
pub mod RowLaws
pub mod RuleRows
-- The canvas of a table that keeps the rules, and the checks that come after them.
pub mod CanvasLaws
pub mod LinedLaws
pub mod CheckLaws
-- The grid that reading makes of a drawing: which rectangles are traced in it, what is cut from it.
pub mod GlyphRows
pub mod FirstBoxes
pub mod CutBoxes
pub mod TextSlots
-- The table that is read back from a drawing.
pub mod CellsBack
pub mod SectionsBack
pub mod AlignmentsBack
pub mod SameDrawn
pub mod ReadsBack
pub mod WidthsBack
pub mod SameBack
-- Demand 3, over the definitions and over the calls, and four statements beyond it.
pub mod PlaceLaws
pub mod RoundTrip
pub mod Exact
pub mod CallLaws
pub mod CallRoundTrip
pub mod RedrawAgain
pub mod CallAgain
pub mod RedrawRead
pub mod RedrawPlace
-- The call from a sheet to its redrawing: the two calls one after the other.
pub mod SheetCallLaws
