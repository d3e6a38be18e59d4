use Rattle.std.proofs.Common.{◌≤◌, length}
use Rattle.replaying.proofs.numbers.Given as goal

abbrev pub invariant-loop-number : goal.invariant-loop-number
invariant-loop-number g l = goal.F-IsAlwaysCallable g l.fitted × (l.n ≤ length l.out)

abbrev pub decreases-loop-number : goal.decreases-loop-number
decreases-loop-number g l = length l.left
