use Rattle.sizes.proofs.borders.OffsetLaws.{first-known, next_fits, one_known, all_known}
use borrow.Author.Rules.{rules}
use Rattle.sizes.proofs.borders.offsets.Goals as goal

pub loop-i-init : goal.loop-i-init
loop-i-init c = search (rules, first-known)

pub loop-i-preserved : goal.loop-i-preserved
loop-i-preserved c = search (rules, one_known)

pub returns : goal.returns
returns c = search (rules, all_known)
