-- The redraw call: from the arguments as lent, its answer and every output array afterwards.
use Rattle.std.specs.Prelude.{ℕ, Bool, ◌||◌, List, ltb, length}
use Rattle.grid.specs.Answer.{Answer, accept, refuse_if, and_then, afterwards, over}
use Rattle.grid.specs.Limits.{max_cells, max_table_lines}
use Rattle.grid.specs.Values.{Table}
use Rattle.grid.specs.Flat.{FlatDrawing, flat_drawing, TableSizes, TableArrays, table_contradicts, table_of_arrays, shorter}
use Rattle.grid.specs.LayoutCall.{slot_space, rect_space}
use Rattle.drawing.specs.Redraw.{redraw}

-- the lengths of the working space as lent: where each line of the text starts and ends; each cell's first line, its number of drawn
-- lines, its widest line and a column, and its borders; for each slot the border byte or the cell that starts there
pub record RedrawSpace : Type 0 where
  pub starts : ℕ
  pub ends : ℕ
  pub firsts : ℕ
  pub heights : ℕ
  pub wides : ℕ
  pub rects : ℕ
  pub canvas : ℕ

-- the working space, the table and the output arrays, from what a call is lent
abbrev pub redraw_spaces : (starts ends firsts heights wides rects canvas : List ℕ) → RedrawSpace
redraw_spaces starts ends firsts heights wides rects canvas =
    record {
      starts = length starts;
      ends = length ends;
      firsts = length firsts;
      heights = length heights;
      wides = length wides;
      rects = length rects;
      canvas = length canvas;
    }

abbrev pub table_given : (columns rows cells lines bytes : ℕ) → TableSizes
table_given columns rows cells lines bytes = record { columns = columns; rows = rows; cells = cells; lines = lines; bytes = bytes }

abbrev pub table_lent : (columns sections cells lengths text : List ℕ) → TableArrays
table_lent columns sections cells lengths text =
    record { columns = columns; sections = sections; cells = cells; lengths = lengths; text = text }

unfoldable pub redraw_space_short : RedrawSpace → Bool
redraw_space_short w =
    ltb w.starts max_table_lines || ltb w.ends max_table_lines || ltb w.firsts max_cells || ltb w.heights max_cells
    || ltb w.wides max_cells || ltb w.rects rect_space || ltb w.canvas slot_space

pub record DrawingSizes : Type 0 where
  pub lines : ℕ
  pub bytes : ℕ

pub record DrawingArrays : Type 0 where
  pub lengths : List ℕ
  pub columns : List ℕ
  pub text : List ℕ

abbrev pub drawing_lent : (lengths columns text : List ℕ) → DrawingArrays
drawing_lent lengths columns text = record { lengths = lengths; columns = columns; text = text }

abbrev pub drawing_sizes : FlatDrawing → DrawingSizes
drawing_sizes d = record { lines = d.lines; bytes = d.bytes }

unfoldable pub drawing_short : DrawingArrays → FlatDrawing → Bool
drawing_short out d = shorter out.lengths d.lengths || shorter out.columns d.columns || shorter out.text d.text

abbrev pub drawing_over : FlatDrawing → DrawingArrays → DrawingArrays
drawing_over d out = drawing_lent (over d.lengths out.lengths) (over d.columns out.columns) (over d.text out.text)

-- redraw's own refusals, then 12
abbrev pub redraw_into : DrawingArrays → ℕ → Table → Answer FlatDrawing
redraw_into out origin t =
    and_then (redraw origin t) (λ lines. refuse_if (drawing_short out (flat_drawing lines)) 12 (accept (flat_drawing lines)))

-- the arguments: the working space, the origin, the table's sizes and arrays, and what the output arrays hold
unfoldable pub redraw_accepts : RedrawSpace → ℕ → TableSizes → TableArrays → DrawingArrays → Answer FlatDrawing
redraw_accepts w origin s t out = refuse_if (table_contradicts s t || redraw_space_short w) 13 (redraw_into out origin (table_of_arrays s t))

unfoldable pub redraw_answer : RedrawSpace → ℕ → TableSizes → TableArrays → DrawingArrays → Answer DrawingSizes
redraw_answer w origin s t out = and_then (redraw_accepts w origin s t out) (λ d. accept (drawing_sizes d))

unfoldable pub redraw_afterwards : RedrawSpace → ℕ → TableSizes → TableArrays → DrawingArrays → DrawingArrays
redraw_afterwards w origin s t out = afterwards (redraw_accepts w origin s t out) (λ d. drawing_over d out) out
