-- `utf8::several::is_mark` meets its contract.
use borrow.Author.Rules.{rules}
use Rattle.utf8.proofs.SeveralLaws.{mark-at}
use Rattle.utf8.proofs.several.is_mark.Goals as goal

pub returns : goal.returns
returns c = search (rules, mark-at)
