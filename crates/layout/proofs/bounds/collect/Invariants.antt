-- `layout::bounds::collect` meets its contract. The invariant: the marked numbers below x are collected.
use Rattle.layout.specs.Marked.{marked_below, LinesCollected}
use Rattle.layout.proofs.bounds.collect.Given as goal

abbrev pub invariant-loop-x : goal.invariant-loop-x
invariant-loop-x l = LinesCollected (marked_below l.marks l.x) l.x l.lines l.index l.count
