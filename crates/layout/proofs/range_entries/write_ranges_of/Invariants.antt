-- `layout::range_entries::write_ranges_of` meets its contract. The invariant: the ranges of the inner lines above y are written, up to entry `end`.
use Rattle.representation.specs.Lent.{rect_of}
use Rattle.layout.proofs.range_entries.RangeLaws.{RangesWritten}
use Rattle.layout.proofs.range_entries.write_ranges_of.Given as goal

abbrev pub invariant-loop-y : goal.invariant-loop-y
invariant-loop-y l = RangesWritten l.offsets (rect_of l.rect) l.at l.initial.out l.y l.end l.out
