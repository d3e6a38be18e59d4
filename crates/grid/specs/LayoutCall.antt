-- The layout call: from the arguments as lent, its answer and every output array afterwards.
use Rattle.std.specs.Prelude.{ℕ, ◌*◌, Bool, ◌||◌, length, ltb}
use mathlib.Core.List.{List, [], ◌∷◌, flat_map}
use Rattle.grid.specs.Answer.{Answer, accept, refuse_if, and_then, afterwards, over}
use Rattle.grid.specs.Limits.{max_lines, max_width, max_cells}
use Rattle.grid.specs.Values.{Line, Row, Range, Cell, Layout}
use Rattle.grid.specs.Slots.{trimmed_at}
use Rattle.grid.specs.Read.{read_layout}
use Rattle.grid.specs.Flat.{FlatDrawing, drawing_contradicts, lines_of, section_code, column_numbers, shorter}

-- "Each call names the length of working space that it needs": an entry for each slot, and four for each rectangle
abbrev pub slot_space : ℕ
slot_space = max_lines * max_width

abbrev pub rect_space : ℕ
rect_space = 4 * max_cells

-- the lengths of the working space as lent: for each slot its glyph, its byte, and how far it reaches down and right; the rectangles
pub record LayoutSpace : Type 0 where
  pub glyphs : ℕ
  pub offsets : ℕ
  pub down : ℕ
  pub right : ℕ
  pub rects : ℕ

-- the working space and the drawing, from the arrays that a call is lent
abbrev pub spaces : List ℕ → List ℕ → List ℕ → List ℕ → List ℕ → LayoutSpace
spaces glyphs offsets down right rects =
    record { glyphs = length glyphs; offsets = length offsets; down = length down; right = length right; rects = length rects }

abbrev pub drawing : ℕ → ℕ → List ℕ → List ℕ → List ℕ → FlatDrawing
drawing lines bytes lengths columns text = record { lines = lines; bytes = bytes; lengths = lengths; columns = columns; text = text }

unfoldable pub space_short : LayoutSpace → Bool
space_short w =
    ltb w.glyphs slot_space || ltb w.offsets slot_space || ltb w.down slot_space || ltb w.right slot_space || ltb w.rects rect_space

-- what an accepted layout answers: the width of the drawing, and how many columns, rows, cells and ranges were written
pub record LayoutSizes : Type 0 where
  pub width : ℕ
  pub columns : ℕ
  pub rows : ℕ
  pub cells : ℕ
  pub ranges : ℕ

-- each column's alignment and width, each row's section, top and bottom, each cell's row, column, colspan, rowspan and left column,
-- and the start and end of all cells' ranges, one range per inner line, in cell order
pub record LayoutArrays : Type 0 where
  pub columns : List ℕ
  pub rows : List ℕ
  pub cells : List ℕ
  pub ranges : List ℕ

abbrev pub contents : Layout → List Range
contents l = flat_map (λ (c : Cell). c.content) l.cells

abbrev pub row_numbers : Row → List ℕ
row_numbers r = section_code r.section ∷ r.top ∷ r.bottom ∷ []

abbrev pub cell_numbers : Cell → List ℕ
cell_numbers c = c.row ∷ c.column ∷ c.colspan ∷ c.rowspan ∷ c.left ∷ []

abbrev pub range_numbers : Range → List ℕ
range_numbers r = r.start ∷ r.end ∷ []

unfoldable pub layout_arrays : Layout → LayoutArrays
layout_arrays l =
    record {
      columns = flat_map column_numbers l.columns;
      rows = flat_map row_numbers l.rows;
      cells = flat_map cell_numbers l.cells;
      ranges = flat_map range_numbers (contents l);
    }

unfoldable pub layout_sizes : List Line → Layout → LayoutSizes
layout_sizes lines l =
    record {
      width = length (trimmed_at lines 0);
      columns = length l.columns;
      rows = length l.rows;
      cells = length l.cells;
      ranges = length (contents l);
    }

-- 12, for each output array on its own
unfoldable pub layout_short : LayoutArrays → LayoutArrays → Bool
layout_short out l =
    shorter out.columns l.columns || shorter out.rows l.rows || shorter out.cells l.cells || shorter out.ranges l.ranges

unfoldable pub layout_over : LayoutArrays → LayoutArrays → LayoutArrays
layout_over l out =
    record {
      columns = over l.columns out.columns;
      rows = over l.rows out.rows;
      cells = over l.cells out.cells;
      ranges = over l.ranges out.ranges;
    }

-- the arguments: the working space, the drawing, and what the output arrays hold
unfoldable pub layout_accepts : LayoutSpace → FlatDrawing → LayoutArrays → Answer Layout
layout_accepts w d out =
    refuse_if (drawing_contradicts d || space_short w) 13
    (and_then (read_layout (lines_of d)) (λ l. refuse_if (layout_short out (layout_arrays l)) 12 (accept l)))

unfoldable pub layout_answer : LayoutSpace → FlatDrawing → LayoutArrays → Answer LayoutSizes
layout_answer w d out = and_then (layout_accepts w d out) (λ l. accept (layout_sizes (lines_of d) l))

-- "It changes no lent buffer except working space"
unfoldable pub layout_afterwards : LayoutSpace → FlatDrawing → LayoutArrays → LayoutArrays
layout_afterwards w d out = afterwards (layout_accepts w d out) (λ l. layout_over (layout_arrays l) out) out
