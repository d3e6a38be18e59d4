-- `slots::reach::step_up` meets its contract: the invariant: the first x slots are stepped.
use Rattle.slots.specs.Reaching.{Stepped}
use Rattle.slots.proofs.reach.step_up.Given as goal

abbrev pub invariant-loop-x : goal.invariant-loop-x
invariant-loop-x l = Stepped l.x l.y l.glyphs l.initial.ends l.ends
