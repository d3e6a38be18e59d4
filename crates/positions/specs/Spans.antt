-- Positions from the arrays that reading a drawing leaves.
use Rattle.std.specs.Prelude.{ℕ, ◌+◌, ◌-◌, cond, ltb}
use mathlib.Core.List.{List, flat_map}
use Rattle.grid.specs.Values.{Line, Rect}
use Rattle.grid.specs.Layout.{Between, between}
use Rattle.representation.specs.Arrays.{code_at}
use Rattle.sourcepos.specs.Positions.{Sourcepos, Placed, number_at, table_byte_at, whole_lines, no_lines}
use Rattle.sourcepos.specs.PositionsCall.{four_numbers}
use Rattle.positions.specs.declared.span.Sourcepos.{Sourcepos as Found}

-- a position as the definitions have it
abbrev pub sourcepos_of : Found → Sourcepos
sourcepos_of s =
    record { start_line = s.start_line; start_column = s.start_column; end_line = s.end_line; end_column = s.end_column }

-- lines with their numbers and table bytes
abbrev pub placed_lines : List ℕ → List ℕ → List Line → Placed
placed_lines numbers table_bytes lines = record { lines = lines; numbers = numbers; table_bytes = table_bytes }

-- a row lies between two border lines
abbrev pub lines_between : Placed → ℕ → ℕ → Sourcepos
lines_between p top bottom = cond (ltb (top + 1) bottom) (whole_lines p (top + 1) (bottom - 1)) (no_lines p top)

abbrev pub row_spans : Placed → List ℕ → List ℕ
row_spans p lines = flat_map (λ (b : Between). four_numbers (lines_between p b.from b.to)) (between lines)

-- a cell lies inside a rectangle, from the byte after its left border to the byte of its right one
abbrev pub rect_span : Placed → List ℕ → Rect → Sourcepos
rect_span p offsets r =
    cond (ltb (r.top + 1) r.bottom)
    (record {
      start_line = number_at p (r.top + 1);
      start_column = table_byte_at p (r.top + 1) + (code_at offsets (r.top + 1) r.left + 1) + 1;
      end_line = number_at p (r.bottom - 1);
      end_column = table_byte_at p (r.bottom - 1) + code_at offsets (r.bottom - 1) r.right;
    }) (no_lines p r.top)

abbrev pub rect_spans : Placed → List ℕ → List Rect → List ℕ
rect_spans p offsets rs = flat_map (λ r. four_numbers (rect_span p offsets r)) rs
