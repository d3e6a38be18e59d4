-- Demand 3 at the level of calls: what a caller takes from the arrays after an accepted call, and how much room is always enough.
use Rattle.std.specs.Prelude.{◌≡◌, ℕ, ◌*◌, ◌≤◌, length, take}
use Rattle.grid.specs.Limits.{max_lines, max_bytes, max_columns, max_rows, max_cells, max_table_lines}
use Rattle.grid.specs.Answer.{accept}
use Rattle.grid.specs.Values.{Table}
use Rattle.grid.specs.Same.{Same}
use Rattle.grid.specs.Flat.{FlatDrawing, TableSizes, TableArrays, table_of_arrays}
use Rattle.grid.specs.LayoutCall.{slot_space, rect_space, LayoutSpace}
use Rattle.grid.specs.TableCall.{TableSpace, table_answer, table_afterwards}
use Rattle.drawing.specs.RedrawCall.{RedrawSpace, DrawingSizes, DrawingArrays, redraw_answer, redraw_afterwards}

-- as many entries of each array as the sizes say
unfoldable pub drawing_taken : DrawingSizes → DrawingArrays → FlatDrawing
drawing_taken n a =
    record {
      lines = n.lines;
      bytes = n.bytes;
      lengths = take n.lines a.lengths;
      columns = take n.lines a.columns;
      text = take n.bytes a.text;
    }

unfoldable pub table_taken : TableSizes → TableArrays → TableArrays
table_taken n a =
    record {
      columns = take (2 * n.columns) a.columns;
      sections = take n.rows a.sections;
      cells = take (5 * n.cells) a.cells;
      lengths = take n.lines a.lengths;
      text = take n.bytes a.text;
    }

-- the table call on a drawing is accepted, and what it writes, taken apart, is a table the same as t
abbrev pub CallReads : LayoutSpace → TableSpace → TableArrays → FlatDrawing → Table → Type 0
CallReads w s out d t =
    (m : TableSizes) × (table_answer w s d out ≡ accept m) × Same (table_of_arrays m (table_taken m (table_afterwards w s d out))) t

-- output arrays that no result is too long for
pub record DrawingRoom (out : DrawingArrays) : Type 0 where
  pub lengths : max_lines ≤ length out.lengths
  pub columns : max_lines ≤ length out.columns
  pub text : max_bytes ≤ length out.text

pub record TableRoom (out : TableArrays) : Type 0 where
  pub columns : 2 * max_columns ≤ length out.columns
  pub sections : max_rows ≤ length out.sections
  pub cells : 5 * max_cells ≤ length out.cells
  pub lengths : max_table_lines ≤ length out.lengths
  pub text : max_bytes ≤ length out.text

-- the working space that the call from a drawing to its table names
pub record ReadRoom (w : LayoutSpace) (s : TableSpace) : Type 0 where
  pub glyphs : slot_space ≤ w.glyphs
  pub offsets : slot_space ≤ w.offsets
  pub down : slot_space ≤ w.down
  pub right : slot_space ≤ w.right
  pub rects : rect_space ≤ w.rects
  pub starts : max_lines ≤ s.starts
  pub counts : max_cells ≤ s.counts

-- the working space that the redraw call names
pub record RedrawRoom (w : RedrawSpace) : Type 0 where
  pub starts : max_table_lines ≤ w.starts
  pub ends : max_table_lines ≤ w.ends
  pub firsts : max_cells ≤ w.firsts
  pub heights : max_cells ≤ w.heights
  pub wides : max_cells ≤ w.wides
  pub rects : rect_space ≤ w.rects
  pub canvas : slot_space ≤ w.canvas

-- the redraw call from t changes nothing in arrays that hold a drawing of sizes n, and gives that drawing in any others with room
pub record RedrawsAgain (w : RedrawSpace) (o : ℕ) (s : TableSizes) (t : TableArrays) (n : DrawingSizes) (held : DrawingArrays) : Type 0 where
  pub answer : redraw_answer w o s t held ≡ accept n
  pub unchanged : redraw_afterwards w o s t held ≡ held
  pub elsewhere : (out : DrawingArrays) → DrawingRoom out → redraw_answer w o s t out ≡ accept n
  pub same : (out : DrawingArrays) → DrawingRoom out → drawing_taken n (redraw_afterwards w o s t out) ≡ drawing_taken n held
