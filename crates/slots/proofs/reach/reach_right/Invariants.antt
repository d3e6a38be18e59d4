-- `slots::reach::reach_right` meets its contract: the invariant: the lines above y are written.
use Rattle.slots.proofs.reach.ReachLaws.{RightRows}
use Rattle.slots.proofs.reach.reach_right.Given as goal

abbrev pub invariant-loop-y : goal.invariant-loop-y
invariant-loop-y l = RightRows l.height l.width l.glyphs l.initial.right l.right l.y
