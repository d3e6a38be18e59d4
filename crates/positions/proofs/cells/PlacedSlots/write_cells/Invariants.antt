-- The positions of the first k cells are written.
use Rattle.std.proofs.Common.{List}
use Rattle.grid.specs.Values.{Line}
use Rattle.positions.specs.Lent.{placed_by}
use Rattle.positions.proofs.cells.RectLaws.{RectSpansWritten}
use Rattle.positions.proofs.cells.PlacedSlots.write_cells.Given as goal

abbrev pub invariant-loop-k : goal.invariant-loop-k
invariant-loop-k l =
    (lines : List Line) → RectSpansWritten (placed_by l.self.lines lines) l.self.offsets.now l.rects.array.now l.rects.count l.initial.out l.k l.out
