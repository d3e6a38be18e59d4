use Rattle.sizes.proofs.fit.TotalLaws.{none-added, total-fits, one-added, total-small}
use borrow.Author.Rules.{rules}
use Rattle.sizes.proofs.fit.total.Goals as goal

pub loop-i-init : goal.loop-i-init
loop-i-init c = search (rules, none-added)

pub loop-i-preserved : goal.loop-i-preserved
loop-i-preserved c = search (rules, one-added)
