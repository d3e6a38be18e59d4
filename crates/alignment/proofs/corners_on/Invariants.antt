-- `alignment::corners_on` meets its contract. The invariant: the corners of the first k cells are marked.
use Rattle.alignment.proofs.CornerLaws.{Marking}
use Rattle.alignment.proofs.corners_on.Given as goal

abbrev pub invariant-loop-k : goal.invariant-loop-k
invariant-loop-k l = Marking l.cells l.n l.line l.marks l.k
