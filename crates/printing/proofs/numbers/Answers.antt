use borrow.Author.Rules.{rules}
use Rattle.printing.proofs.PutLaws.{numbers-none, numbers-next, numbers-all}
use Rattle.printing.proofs.numbers.Goals as goal

pub loop-value-init : goal.loop-value-init
loop-value-init c = search (rules, numbers-none)

pub loop-value-preserved : goal.loop-value-preserved
loop-value-preserved c = search (rules, numbers-next)

pub returns : goal.returns
returns c = search numbers-all
