-- `slots::reach::reach_runs` meets its contract: the invariant: the columns from x on are written, and last and goes_on are those of column x.
use Rattle.slots.proofs.reach.ReachLaws.{RightSoFar}
use Rattle.slots.proofs.reach.reach_runs.Given as goal

abbrev pub invariant-loop-x : goal.invariant-loop-x
invariant-loop-x l = RightSoFar l.width l.y l.glyphs l.initial.right l.right l.x l.last l.goes_on
