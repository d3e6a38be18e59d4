use borrow.Author.Rules.{rules}
use Rattle.slots.proofs.reach.ReachLaws.{run-next}
use Rattle.slots.proofs.reach.has_run.Goals as goal

pub loop-x-preserved : goal.loop-x-preserved
loop-x-preserved c = search (rules, run-next)
