use borrow.Author.Rules.{rules}
use Rattle.cm.proofs.split.ColumnLaws.{search-starts, search-here, search-next, search-ends}
use Rattle.cm.proofs.split.split_column.Goals as goal

pub loop-x-init : goal.loop-x-init
loop-x-init c = search (rules, search-starts)

pub returns-then-above-below : goal.returns-then-above-below
returns-then-above-below c = search search-here

pub loop-x-preserved : goal.loop-x-preserved
loop-x-preserved c = search (rules, search-next)

pub returns : goal.returns
returns c = search search-ends
