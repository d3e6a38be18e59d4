-- `slots::reach::has_run` meets its contract: the invariant: where none was met, no two of the first x slots are a run.
use Rattle.slots.proofs.reach.ReachLaws.{RunSoFar}
use Rattle.slots.proofs.reach.has_run.Given as goal

abbrev pub invariant-loop-x : goal.invariant-loop-x
invariant-loop-x l = RunSoFar l.y l.glyphs l.x l.any
