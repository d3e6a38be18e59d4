use Rattle.layout.proofs.column_entries.ColumnEntryLaws.{columns_written-none, columns_written-next, columns_written-all}
use borrow.Author.Rules.{rules}
use Rattle.layout.proofs.column_entries.write_columns.Goals as goal

pub loop-k-init : goal.loop-k-init
loop-k-init c = search (rules, columns_written-none)

pub loop-k-preserved : goal.loop-k-preserved
loop-k-preserved c = search (rules, columns_written-next)

pub returns : goal.returns
returns c = search (rules, columns_written-all)
