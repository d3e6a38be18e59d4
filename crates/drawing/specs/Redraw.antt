-- Document 01: "Redraw checks 13, 1, 2, 3, 8, 9, 10, drawn size (2), 11, 12." 13 and 12 belong to a call's arrays.
use Rattle.std.specs.Prelude.{ℕ, ◌+◌, ◌-◌, Bool, not, ◌&&◌, ◌||◌, List, map, length, ltb}
use Rattle.std.proofs.Math.Option.{Option}
use Rattle.seq.specs.Lists.{range, up_to, sum, all, any, find, first_at, is_empty}
use Rattle.text.specs.Utf8.{well_formed}
use Rattle.grid.specs.Answer.{Answer, accept, refuse_if, refuse_at}
use Rattle.grid.specs.Limits.{max_lines, max_line_bytes, max_bytes, max_width, max_columns, max_rows, max_cells, max_origin, max_table_lines}
use Rattle.grid.specs.Values.{Line, Rect, GridTableColumn, TableCell, Table}
use Rattle.grid.specs.Slots.{Grid, grid_of, glyph_at, vertical}
use Rattle.grid.specs.Rectangle.{plus_at}
use Rattle.grid.specs.Layout.{inner_lines}
use Rattle.grid.specs.Read.{drawing_too_large}
use Rattle.grid.specs.Flat.{table_lines}
use Rattle.grid.specs.declared.TableAlignment.{TableAlignment}
use Rattle.drawing.specs.GridRules.{is_head, is_foot, keeps_rules}
use Rattle.drawing.specs.Plain.{Box, Canvas, canvas_of, canvas_lines, canvas_width, alignment_row, corner_at, column_alignment, has_corner, has_left_colon, has_right_colon, left_colon, right_colon}

-- 1: "a table no columns, rows or cells"
unfoldable pub table_empty : Table → Bool
table_empty t = is_empty t.columns || is_empty t.sections || is_empty t.cells

-- 2, of what a table is made of beside its text
unfoldable pub shape_too_large : Table → Bool
shape_too_large t =
    ltb max_columns (length t.columns) || ltb max_rows (length t.sections) || ltb max_cells (length t.cells)
    || any (λ (c : GridTableColumn). ltb max_width c.width) t.columns

-- 2, of its text: "In a table the 128 lines hold for each cell, and all cells together have at most 16,384."
unfoldable pub lines_too_large : Table → Bool
lines_too_large t =
    any (λ (c : TableCell). ltb max_lines (length c.lines)) t.cells || ltb max_table_lines (length (table_lines t))
    || any (λ line. ltb max_line_bytes (length line)) (table_lines t) || ltb max_bytes (sum (map length (table_lines t)))

unfoldable pub table_too_large : ℕ → Table → Bool
table_too_large origin t = ltb max_origin origin || shape_too_large t || lines_too_large t

-- 3: "lines are counted over all cells in order"
unfoldable pub table_outside_set : Table → Option ℕ
table_outside_set t = first_at (λ line. not (well_formed line)) 0 (table_lines t)

-- 9: "a Foot row and no Head row"
unfoldable pub foot_without_head : Table → Bool
foot_without_head t = any is_foot t.sections && not (any is_head t.sections)

-- a colon "stands there inside a segment, at neither end of it"
abbrev pub inside_segment : Canvas → ℕ → Bool
inside_segment v x = not (corner_at v (alignment_row v) (x - 1)) && not (corner_at v (alignment_row v) (x + 1))

-- 10: "an aligned column has no corner at its left on the alignment line .., or a colon drawn for it stands there inside a segment"
abbrev pub colons_misplaced : Canvas → ℕ → TableAlignment → Bool
colons_misplaced v k a =
    (has_left_colon a || has_right_colon a)
    && (not (has_corner v k) || has_left_colon a && inside_segment v (left_colon v k) || has_right_colon a && inside_segment v (right_colon v k))

unfoldable pub misaligned : Canvas → Option ℕ
misaligned v = find (λ k. colons_misplaced v k (column_alignment v k)) (up_to (length v.columns))

-- drawn size: width, lines, bytes a line and bytes
unfoldable pub drawn_too_large : Canvas → List Line → Bool
drawn_too_large v lines = ltb max_width (canvas_width v) || drawing_too_large lines

-- "Split (11). At some column strictly inside a cell, its top and bottom borders both have `+`, and every line between has `|` or `+` there."
unfoldable pub splits_at : Grid → Rect → ℕ → Bool
splits_at g r x = plus_at g r.top x && plus_at g r.bottom x && all (λ y. vertical (glyph_at g y x)) (inner_lines r)

unfoldable pub splits : Grid → Rect → Bool
splits g r = any (splits_at g r) (range (r.left + 1) (r.right - r.left - 1))

-- 11: the first cell that would split
unfoldable pub split_cell : Canvas → Grid → Option ℕ
split_cell v g = first_at (λ (b : Box). splits g b.frame) 0 v.boxes

-- the checks after 8, on the drawing
unfoldable pub redraw_canvas : Table → Canvas → List Line → Answer (List Line)
redraw_canvas t v lines =
    refuse_if (foot_without_head t) 9
    (refuse_at (misaligned v) 10 (refuse_if (drawn_too_large v lines) 2 (refuse_at (split_cell v (grid_of lines)) 11 (accept lines))))

-- the checks up to 8: a table passes them exactly when it can be drawn
unfoldable pub check_table : {A : Type 0} → ℕ → Table → Answer A → Answer A
check_table origin t next =
    refuse_if (table_empty t) 1
    (refuse_if (table_too_large origin t) 2 (refuse_at (table_outside_set t) 3 (refuse_if (not (keeps_rules t)) 8 next)))

unfoldable pub redraw : ℕ → Table → Answer (List Line)
redraw origin t = check_table origin t (redraw_canvas t (canvas_of t) (canvas_lines origin (canvas_of t)))
