-- The answer of the call from a drawing to its redrawing, in the terms of the definitions.
use Rattle.std.specs.Prelude.{◌*◌, ◌≤◌, length, Result, Ok, Err}
use Rattle.grid.specs.Flat.{TableSizes, TableArrays}
use Rattle.drawing.specs.SheetCall.{SheetAnswer, redrawn, unread, undrawn}
use Rattle.refusals.specs.Refusal.{number_of, place_of}
use Rattle.cm.specs.Late.{written_sizes}
use Rattle.cm.specs.declared.draw.DrawingSizes.{DrawingSizes}
use Rattle.redrawing.specs.declared.SheetRefusal.{SheetRefusal}
use Rattle.redrawing.specs.declared.SheetRefusal.TheVariants.{Unread, Undrawn}

-- document 01's step, number and place of a refusal
abbrev pub refusal_of : SheetRefusal → SheetAnswer
refusal_of (Unread e) = unread (number_of e) (place_of e)
refusal_of (Undrawn e) = undrawn (number_of e) (place_of e)

-- document 01's step, number, place and values for each case of the answer
abbrev pub sheet_of : Result DrawingSizes SheetRefusal → SheetAnswer
sheet_of (Ok s) = redrawn (written_sizes s)
sheet_of (Err e) = refusal_of e

-- the arrays have room for a table of these sizes
pub record Filled (m : TableSizes) (b : TableArrays) : Type 0 where
  pub columns : 2 * m.columns ≤ length b.columns
  pub rows : m.rows ≤ length b.sections
  pub cells : 5 * m.cells ≤ length b.cells
  pub lines : m.lines ≤ length b.lengths
  pub bytes : m.bytes ≤ length b.text
