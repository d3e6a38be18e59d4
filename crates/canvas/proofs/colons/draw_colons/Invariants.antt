-- `canvas::colons::draw_colons` meets its contract: the colons of the columns from k on stand.
use Rattle.canvas.proofs.colons.ColonLaws.{ColonsSoFar}
use Rattle.canvas.proofs.colons.draw_colons.Given as goal

abbrev pub invariant-loop-k : goal.invariant-loop-k
invariant-loop-k l = ColonsSoFar l.cols l.xs l.marks l.columns l.row l.initial.canvas l.canvas l.next l.k

abbrev pub decreases-loop-k : goal.decreases-loop-k
decreases-loop-k l = l.k
