-- `slots::reach::reach_down` meets its contract: the invariant: the lines from y on are written, and `ends` is line y.
use Rattle.slots.proofs.reach.ReachLaws.{DownRows}
use Rattle.slots.proofs.reach.reach_down.Given as goal

abbrev pub invariant-loop-y : goal.invariant-loop-y
invariant-loop-y l = DownRows l.height l.width l.glyphs l.initial.down l.down l.ends l.y
