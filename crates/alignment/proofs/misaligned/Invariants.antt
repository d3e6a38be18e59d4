-- `alignment::misaligned` meets its contract. The invariant: none of the first k columns lacks a corner.
use Rattle.alignment.proofs.LackLaws.{Passed}
use Rattle.alignment.proofs.misaligned.Given as goal

abbrev pub invariant-loop-k : goal.invariant-loop-k
invariant-loop-k l = Passed l.cols l.corners.marks l.k
