use Rattle.layout.proofs.bounds.EdgeLaws.{marks-none, first_small, second-small, marks-next}
use borrow.Author.Rules.{rules}
use Rattle.layout.proofs.bounds.edges.Goals as goal

pub loop-k-init : goal.loop-k-init
loop-k-init c = search (rules, marks-none)

pub bounds-marks-first : goal.bounds-marks-first
bounds-marks-first c = search (rules, first_small)

pub bounds-marks-second : goal.bounds-marks-second
bounds-marks-second c = search (rules, second-small)

pub loop-k-preserved : goal.loop-k-preserved
loop-k-preserved c = search (rules, marks-next, first_small, second-small)
