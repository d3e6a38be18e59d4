use borrow.Author.Rules.{rules}
use Rattle.seq.proofs.Walks.{all-next, all-ends}
use Rattle.rule_lines.proofs.trim.all_blank.Goals as goal

pub loop-b-preserved : goal.loop-b-preserved
loop-b-preserved c = search (rules, all-next)

pub returns : goal.returns
returns c = search all-ends
