-- How much working space a call names, and how long output arrays are in which no result is too long.
use Rattle.std.specs.Prelude.{ℕ, ◌*◌, ◌≤◌, length}
use Rattle.grid.specs.Limits.{max_lines, max_bytes, max_columns, max_rows, max_cells, max_table_lines}
use Rattle.grid.specs.Flat.{TableArrays}
use Rattle.grid.specs.LayoutCall.{slot_space, rect_space, LayoutSpace, LayoutArrays}
use Rattle.grid.specs.TableCall.{TableSpace}
use Rattle.sourcepos.specs.PositionsCall.{PositionArrays}
use Rattle.drawing.specs.RedrawCall.{RedrawSpace, DrawingArrays}
use Rattle.drawing.specs.SheetCall.{SheetSpace}
use Rattle.replies.specs.declared.room.ReadingSpace.{ReadingSpace}
use Rattle.replies.specs.declared.room.DrawingSpace.{DrawingSpace}
use Rattle.replies.specs.declared.room.LayoutRoom.{LayoutRoom}
use Rattle.replies.specs.declared.room.TableRoom.{TableRoom}
use Rattle.replies.specs.declared.room.DrawingRoom.{DrawingRoom}
use Rattle.replies.specs.declared.room.PositionsRoom.{PositionsRoom}

-- ---- working space

-- of the calls that read a drawing: an entry for each slot in four arrays, four for each rectangle, one for each line and one for each cell
abbrev pub reading_space : ReadingSpace
reading_space =
    record {
      glyphs = slot_space;
      offsets = slot_space;
      down = slot_space;
      right = slot_space;
      rects = rect_space;
      starts = max_lines;
      counts = max_cells;
    }

-- of the redraw call: two entries for each line of the table, three for each cell, four for each rectangle and one for each slot
abbrev pub drawing_space : DrawingSpace
drawing_space =
    record {
      starts = max_table_lines;
      ends = max_table_lines;
      firsts = max_cells;
      heights = max_cells;
      wides = max_cells;
      rects = rect_space;
      canvas = slot_space;
    }

-- ---- output arrays

-- of the layout call: two entries a column, three a row, five a cell and two a range
abbrev pub layout_room : LayoutRoom
layout_room = record { columns = 2 * max_columns; rows = 3 * max_rows; cells = 5 * max_cells; ranges = 2 * max_table_lines }

-- of the table call: two entries a column, one a row, five a cell, one a line, and the text
abbrev pub table_room : TableRoom
table_room = record { columns = 2 * max_columns; sections = max_rows; cells = 5 * max_cells; lengths = max_table_lines; text = max_bytes }

-- of the redraw call: an entry for each line in two arrays, and the text
abbrev pub drawing_room : DrawingRoom
drawing_room = record { lengths = max_lines; columns = max_lines; text = max_bytes }

-- of the positions call: four entries a row and four a cell
abbrev pub positions_room : PositionsRoom
positions_room = record { rows = 4 * max_rows; cells = 4 * max_cells }

-- of the cell call: four entries a cut line
abbrev pub cell_room : ℕ
cell_room = 4 * max_lines

-- ---- what is lent, at least as long

pub record ReadingLent (w : LayoutSpace) (s : TableSpace) : Type 0 where
  pub glyphs : reading_space.glyphs ≤ w.glyphs
  pub offsets : reading_space.offsets ≤ w.offsets
  pub down : reading_space.down ≤ w.down
  pub right : reading_space.right ≤ w.right
  pub rects : reading_space.rects ≤ w.rects
  pub starts : reading_space.starts ≤ s.starts
  pub counts : reading_space.counts ≤ s.counts

pub record RedrawLent (w : RedrawSpace) : Type 0 where
  pub starts : drawing_space.starts ≤ w.starts
  pub ends : drawing_space.ends ≤ w.ends
  pub firsts : drawing_space.firsts ≤ w.firsts
  pub heights : drawing_space.heights ≤ w.heights
  pub wides : drawing_space.wides ≤ w.wides
  pub rects : drawing_space.rects ≤ w.rects
  pub canvas : drawing_space.canvas ≤ w.canvas

-- the arrays between the two steps of the call from a drawing to its redrawing
pub record BetweenLent (h : SheetSpace) : Type 0 where
  pub columns : table_room.columns ≤ h.columns
  pub sections : table_room.sections ≤ h.sections
  pub cells : table_room.cells ≤ h.cells
  pub lengths : table_room.lengths ≤ h.lengths
  pub text : table_room.text ≤ h.text

pub record LayoutLent (out : LayoutArrays) : Type 0 where
  pub columns : layout_room.columns ≤ length out.columns
  pub rows : layout_room.rows ≤ length out.rows
  pub cells : layout_room.cells ≤ length out.cells
  pub ranges : layout_room.ranges ≤ length out.ranges

pub record TableLent (out : TableArrays) : Type 0 where
  pub columns : table_room.columns ≤ length out.columns
  pub sections : table_room.sections ≤ length out.sections
  pub cells : table_room.cells ≤ length out.cells
  pub lengths : table_room.lengths ≤ length out.lengths
  pub text : table_room.text ≤ length out.text

pub record DrawingLent (out : DrawingArrays) : Type 0 where
  pub lengths : drawing_room.lengths ≤ length out.lengths
  pub columns : drawing_room.columns ≤ length out.columns
  pub text : drawing_room.text ≤ length out.text

pub record PositionsLent (out : PositionArrays) : Type 0 where
  pub rows : positions_room.rows ≤ length out.rows
  pub cells : positions_room.cells ≤ length out.cells
