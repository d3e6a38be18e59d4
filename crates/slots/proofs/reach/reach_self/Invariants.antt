-- `slots::reach::reach_self` meets its contract: the invariant: the first x slots of line y are written.
use Rattle.slots.specs.Reaching.{LineOf}
use Rattle.slots.proofs.reach.reach_self.Given as goal

abbrev pub invariant-loop-x : goal.invariant-loop-x
invariant-loop-x l = LineOf l.x l.y (λ k. k) l.initial.right l.right
