use borrow.Author.Rules.{rules}
use Rattle.text.proofs.PlainLaws.{plain-next, plain-ends}
use Rattle.utf8.proofs.line_text.is_plain.Goals as goal

pub loop-b-preserved : goal.loop-b-preserved
loop-b-preserved c = search (rules, plain-next)

pub returns : goal.returns
returns c = search plain-ends
