-- The invariant: the lines above b have no rectangle, and the columns before c fail for b and every later line.
use Prim.Native.Nat.{◌+◌, ◌-◌, ◌≤◌}
use Rattle.trace.proofs.search.SearchLaws.{Passed}
use Rattle.trace.proofs.search.find_rect.Given as goal

abbrev pub invariant-loop-b : goal.invariant-loop-b
invariant-loop-b l = (l.c ≤ l.end + 1) × Passed l.borders.height l.borders.width l.glyphs l.down l.right l.top l.left l.b l.c

abbrev pub invariant-loop-c : goal.invariant-loop-c
invariant-loop-c l = (l.c ≤ l.end + 1) × Passed l.borders.height l.borders.width l.glyphs l.down l.right l.top l.left l.b l.c

abbrev pub decreases-loop-c : goal.decreases-loop-c
decreases-loop-c l = l.end + 1 - l.c
