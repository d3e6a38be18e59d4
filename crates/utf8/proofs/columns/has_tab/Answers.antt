use borrow.Author.Rules.{rules}
use Rattle.text.proofs.ByteColumnsLaws.{tab-next, tab-ends}
use Rattle.utf8.proofs.columns.has_tab.Goals as goal

pub loop-b-preserved : goal.loop-b-preserved
loop-b-preserved c = search (rules, tab-next)

pub returns : goal.returns
returns c = search tab-ends
