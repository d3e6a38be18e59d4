-- The calls that read a drawing, in parts as the code takes them: the checks up to the width, the slots with tracing, and the layout with 12.
use Rattle.std.specs.Prelude.{ℕ, ◌||◌, List, length, ltb}
use Rattle.seq.specs.Lists.{is_empty}
use Rattle.grid.specs.Answer.{Answer, accept, refuse_if, refuse_at, and_then, afterwards}
use Rattle.grid.specs.Limits.{max_width}
use Rattle.grid.specs.Values.{Line, Rect, Layout}
use Rattle.grid.specs.Slots.{Grid, grid_of, trimmed_at}
use Rattle.grid.specs.Trace.{trace}
use Rattle.grid.specs.Layout.{layout_of}
use Rattle.grid.specs.Read.{drawing_too_large, outside_set, no_rule, wrong_width, rectangles, read_rects}
use Rattle.grid.specs.Flat.{FlatDrawing, drawing_contradicts, lines_of}
use Rattle.grid.specs.LayoutCall.{LayoutSpace, LayoutSizes, LayoutArrays, space_short, layout_arrays, layout_sizes, layout_short, layout_over}

-- "Reading checks 13, 1, 2, 3, 4, width (2), 5, then 6 or 7": the rectangles
unfoldable pub rects_answer : LayoutSpace → FlatDrawing → Answer (List Rect)
rects_answer w d = refuse_if (drawing_contradicts d || space_short w) 13 (read_rects (lines_of d))

-- the checks up to the width
unfoldable pub width_answer : FlatDrawing → Answer ℕ
width_answer d =
    refuse_if (drawing_contradicts d) 13
    (refuse_if (is_empty (lines_of d)) 1
    (refuse_if (drawing_too_large (lines_of d)) 2
    (refuse_at (outside_set (lines_of d)) 3
    (refuse_if (no_rule (lines_of d)) 4
    (refuse_if (ltb max_width (length (trimmed_at (lines_of d) 0))) 2 (accept (length (trimmed_at (lines_of d) 0))))))))

-- the checks of the slots and of tracing
unfoldable pub grid_answer : Grid → Answer (List Rect)
grid_answer g = refuse_at (wrong_width g) 5 (rectangles (trace g))

-- 12, and the layout
unfoldable pub finish_answer : List Line → List Rect → LayoutArrays → Answer Layout
finish_answer lines rs out =
    refuse_if (layout_short out (layout_arrays (layout_of lines (grid_of lines) rs))) 12 (accept (layout_of lines (grid_of lines) rs))

unfoldable pub finish_sizes : List Line → List Rect → LayoutArrays → Answer LayoutSizes
finish_sizes lines rs out = and_then (finish_answer lines rs out) (λ l. accept (layout_sizes lines l))

unfoldable pub finish_arrays : List Line → List Rect → LayoutArrays → LayoutArrays
finish_arrays lines rs out = afterwards (finish_answer lines rs out) (λ l. layout_over (layout_arrays l) out) out
