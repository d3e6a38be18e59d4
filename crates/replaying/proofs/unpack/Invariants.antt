use Rattle.std.proofs.Common.{◌≤◌, length}
use Rattle.replaying.proofs.unpack.Given as goal

abbrev pub invariant-loop-b : goal.invariant-loop-b
invariant-loop-b l = l.n ≤ length l.out

abbrev pub decreases-loop-b : goal.decreases-loop-b
decreases-loop-b l = length l.left
