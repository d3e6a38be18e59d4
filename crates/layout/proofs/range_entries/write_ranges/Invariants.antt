-- `layout::range_entries::write_ranges` meets its contract. The invariant: the ranges of the first k cells are written, up to entry `end`.
use Rattle.layout.proofs.range_entries.RangesLaws.{AllRangesWritten}
use Rattle.layout.proofs.range_entries.write_ranges.Given as goal

abbrev pub invariant-loop-k : goal.invariant-loop-k
invariant-loop-k l = AllRangesWritten l.rects l.offsets l.initial.out l.k l.end l.out
