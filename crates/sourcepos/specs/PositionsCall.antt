-- The positions calls: "Positions check as reading does, with their line and byte numbers under 2."
use Rattle.std.specs.Prelude.{ℕ, Bool, not, ◌&&◌, ◌||◌, length, get_or, eqb, leb, ltb}
use mathlib.Core.List.{List, [], ◌∷◌, flat_map}
use Rattle.seq.specs.Lists.{any, is_empty}
use Rattle.grid.specs.Answer.{Answer, accept, refuse_if, and_then, afterwards, over}
use Rattle.grid.specs.Limits.{max_register}
use Rattle.grid.specs.Values.{Layout}
use Rattle.grid.specs.Read.{read_layout}
use Rattle.grid.specs.Flat.{FlatDrawing, lines_of, shorter}
use Rattle.grid.specs.LayoutCall.{LayoutSpace}
use Rattle.grid.specs.TableCall.{starts_short, read_contradicts, no_cell}
use Rattle.sourcepos.specs.Positions.{Sourcepos, Placed, table_position, row_position, cell_position}

-- a drawing as lent, with the number and the table byte of each line
pub record FlatPlaced : Type 0 where
  pub drawing : FlatDrawing
  pub numbers : List ℕ
  pub table_bytes : List ℕ

abbrev pub placed : FlatDrawing → List ℕ → List ℕ → FlatPlaced
placed drawing numbers table_bytes = record { drawing = drawing; numbers = numbers; table_bytes = table_bytes }

unfoldable pub placed_contradicts : LayoutSpace → ℕ → FlatPlaced → Bool
placed_contradicts w space p =
    read_contradicts w (starts_short space) p.drawing || not (eqb (length p.numbers) p.drawing.lines && eqb (length p.table_bytes) p.drawing.lines)

unfoldable pub placed_of : FlatPlaced → Placed
placed_of p = record { lines = lines_of p.drawing; numbers = p.numbers; table_bytes = p.table_bytes }

-- 2, for line and byte numbers: beside the other limits, and so after 1
unfoldable pub numbers_too_large : FlatPlaced → Bool
numbers_too_large p =
    not (is_empty (lines_of p.drawing))
    && (any (λ n. ltb max_register n) p.numbers || any (λ n. ltb max_register n) p.table_bytes)

unfoldable pub placed_layout : LayoutSpace → ℕ → FlatPlaced → Answer Layout
placed_layout w space p =
    refuse_if (placed_contradicts w space p) 13
    (refuse_if (numbers_too_large p) 2 (read_layout (lines_of p.drawing)))

abbrev pub four_numbers : Sourcepos → List ℕ
four_numbers s = s.start_line ∷ s.start_column ∷ s.end_line ∷ s.end_column ∷ []

-- the positions of rows and cells, four numbers each
pub record PositionArrays : Type 0 where
  pub rows : List ℕ
  pub cells : List ℕ

abbrev pub positions_lent : List ℕ → List ℕ → PositionArrays
positions_lent rows cells = record { rows = rows; cells = cells }

unfoldable pub position_arrays : Placed → Layout → PositionArrays
position_arrays p l =
    record {
      rows = flat_map (λ r. four_numbers (row_position p r)) l.rows;
      cells = flat_map (λ c. four_numbers (cell_position p l c)) l.cells;
    }

-- the table's position, and how many rows and cells there are
pub record PositionsFound : Type 0 where
  pub table : Sourcepos
  pub rows : ℕ
  pub cells : ℕ

unfoldable pub positions_accept : LayoutSpace → ℕ → FlatPlaced → PositionArrays → Answer Layout
positions_accept w space p out =
    and_then (placed_layout w space p)
    (λ l. refuse_if (shorter out.rows (position_arrays (placed_of p) l).rows || shorter out.cells (position_arrays (placed_of p) l).cells) 12 (accept l))

unfoldable pub positions_answer : LayoutSpace → ℕ → FlatPlaced → PositionArrays → Answer PositionsFound
positions_answer w space p out =
    and_then (positions_accept w space p out)
    (λ (l : Layout). accept (record { table = table_position (placed_of p); rows = length l.rows; cells = length l.cells }))

unfoldable pub positions_afterwards : LayoutSpace → ℕ → FlatPlaced → PositionArrays → PositionArrays
positions_afterwards w space p out =
    afterwards (positions_accept w space p out)
    (λ l. record {
      rows = over (position_arrays (placed_of p) l).rows out.rows;
      cells = over (position_arrays (placed_of p) l).cells out.cells;
    }) out

-- the position of one cell; 13 where its number is past the end
unfoldable pub cell_position_answer : LayoutSpace → ℕ → FlatPlaced → ℕ → Answer Sourcepos
cell_position_answer w space p k =
    and_then (placed_layout w space p)
    (λ (l : Layout). refuse_if (leb (length l.cells) k) 13 (accept (cell_position (placed_of p) l (get_or l.cells k no_cell))))
