-- Document 01: "Reading checks 13, 1, 2, 3, 4, width (2), 5, then 6 or 7, whichever tracing meets". 13 and 12 belong to a call's arrays.
use Rattle.std.specs.Prelude.{ℕ, Bool, not, ◌||◌, List, map, length, eqb, ltb}
use Rattle.std.proofs.Math.Option.{Option}
use Rattle.seq.specs.Lists.{any, sum, first_at, is_empty}
use Rattle.text.specs.Utf8.{well_formed}
use Rattle.text.specs.Rule.{is_rule}
use Rattle.grid.specs.Answer.{Answer, accept, refuse, refuse_if, refuse_at, and_then}
use Rattle.grid.specs.Limits.{max_lines, max_line_bytes, max_bytes, max_width, max_origin}
use Rattle.grid.specs.Values.{Line, Rect, Layout, Table}
use Rattle.grid.specs.Slots.{Grid, Slot, dash, grid_of, trimmed_at}
use Rattle.grid.specs.Trace.{Traced, covered, stopped, trace}
use Rattle.grid.specs.Layout.{layout_of}
use Rattle.grid.specs.Cut.{table_of}

-- 2: the limits that bind the lines as given, untrimmed
abbrev pub line_too_large : Line → Bool
line_too_large line = ltb max_line_bytes (length line.text) || ltb max_origin line.column

unfoldable pub drawing_too_large : List Line → Bool
drawing_too_large lines =
    ltb max_lines (length lines) || any line_too_large lines || ltb max_bytes (sum (map (λ (line : Line). length line.text) lines))

-- 3: the first line that is not UTF-8 or has a character outside the set
unfoldable pub outside_set : List Line → Option ℕ
outside_set lines = first_at (λ line. not (well_formed line.text)) 0 lines

-- 4: "first line is no `-` rule"
unfoldable pub no_rule : List Line → Bool
no_rule lines = not (is_rule dash (trimmed_at lines 0))

-- 5: the first line that "doesn't fill the width exactly"
unfoldable pub wrong_width : Grid → Option ℕ
wrong_width g = first_at (λ (row : List Slot). not (eqb (length row) g.width)) 0 g.rows

-- the rectangles, or 6 or 7, "place 0"
abbrev pub rectangles : Traced → Answer (List Rect)
rectangles (covered rs) = accept rs
rectangles (stopped number) = refuse number 0

unfoldable pub read_grid : Grid → Answer (List Rect)
read_grid g = refuse_if (ltb max_width g.width) 2 (refuse_at (wrong_width g) 5 (rectangles (trace g)))

-- the rectangles of a drawing, after every check of reading
unfoldable pub read_rects : List Line → Answer (List Rect)
read_rects lines =
    refuse_if (is_empty lines) 1
    (refuse_if (drawing_too_large lines) 2
    (refuse_at (outside_set lines) 3 (refuse_if (no_rule lines) 4 (read_grid (grid_of lines)))))

unfoldable pub read_layout : List Line → Answer Layout
read_layout lines = and_then (read_rects lines) (λ rs. accept (layout_of lines (grid_of lines) rs))

unfoldable pub read_table : List Line → Answer Table
read_table lines = and_then (read_layout lines) (λ l. accept (table_of lines l))
