-- The positions calls in parts as the code takes them: the checks up to the rectangles, then 12 or 13 and the positions.
use Rattle.std.specs.Prelude.{ℕ, ◌*◌, ◌-◌, Bool, ◌||◌, cond, List, leb, ltb, length}
use Rattle.grid.specs.Answer.{Answer, accept, refuse_if, over}
use Rattle.grid.specs.Values.{Rect}
use Rattle.grid.specs.Read.{read_rects}
use Rattle.grid.specs.Flat.{lines_of}
use Rattle.grid.specs.LayoutCall.{LayoutSpace}
use Rattle.representation.specs.Arrays.{rect_in}
use Rattle.sourcepos.specs.Positions.{Sourcepos, Placed, table_position}
use Rattle.sourcepos.specs.PositionsCall.{FlatPlaced, placed_contradicts, numbers_too_large, PositionArrays, positions_lent, PositionsFound}
use Rattle.positions.specs.Spans.{row_spans, rect_span, rect_spans}

-- 13, then 2 for line and byte numbers
abbrev pub placed_check : LayoutSpace → ℕ → FlatPlaced → Answer (Unit {0})
placed_check w starts p = refuse_if (placed_contradicts w starts p) 13 (refuse_if (numbers_too_large p) 2 (accept tt))

unfoldable pub placed_rects : LayoutSpace → ℕ → FlatPlaced → Answer (List Rect)
placed_rects w starts p =
    refuse_if (placed_contradicts w starts p) 13 (refuse_if (numbers_too_large p) 2 (read_rects (lines_of p.drawing)))

-- 12, of so many row lines and cells
abbrev pub spans_short : ℕ → ℕ → PositionArrays → Bool
spans_short rows n out = ltb (length out.rows) (4 * (rows - 1)) || ltb (length out.cells) (4 * n)

-- then the positions
abbrev pub spans_found : Placed → List ℕ → ℕ → PositionArrays → Answer PositionsFound
spans_found p rows n out =
    refuse_if (spans_short (length rows) n out) 12 (accept (record { table = table_position p; rows = length rows - 1; cells = n }))

abbrev pub spans_written : Placed → List ℕ → List ℕ → List Rect → PositionArrays → PositionArrays
spans_written p offsets rows rs out =
    cond (spans_short (length rows) (length rs) out) out (positions_lent (over (row_spans p rows) out.rows) (over (rect_spans p offsets rs) out.cells))

-- "a cell number asked for is past the end": 13; or its position
abbrev pub span_at : Placed → List ℕ → List ℕ → ℕ → ℕ → Answer Sourcepos
span_at p offsets rects n k = refuse_if (leb n k) 13 (accept (rect_span p offsets (rect_in rects k)))
