-- `layout::range_entries::count_ranges` meets its contract. The invariant: the ranges of the first k cells are counted.
use Rattle.layout.proofs.range_entries.RangesLaws.{RangesCounted}
use Rattle.layout.proofs.range_entries.count_ranges.Given as goal

abbrev pub invariant-loop-k : goal.invariant-loop-k
invariant-loop-k l = RangesCounted l.rects l.k l.count
