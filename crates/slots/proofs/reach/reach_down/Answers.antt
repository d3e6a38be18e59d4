use borrow.Author.Rules.{rules}
use Rattle.slots.proofs.reach.ReachLaws.{columns-start, columns-next, columns-end}
use Rattle.slots.proofs.reach.reach_down.Goals as goal

pub loop-y-init : goal.loop-y-init
loop-y-init c = search (rules, columns-start)

pub loop-y-preserved : goal.loop-y-preserved
loop-y-preserved c = search (rules, columns-next)

pub returns-clause-reach_down : goal.returns-clause-reach_down
returns-clause-reach_down c = search (rules, columns-end)
