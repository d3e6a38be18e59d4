use Rattle.layout.proofs.row_entries.RowEntryLaws.{rows_written-none, rows_written-next, rows_written-all}
use borrow.Author.Rules.{rules}
use Rattle.layout.proofs.row_entries.write_rows.Goals as goal

pub loop-k-init : goal.loop-k-init
loop-k-init c = search (rules, rows_written-none)

pub loop-k-preserved : goal.loop-k-preserved
loop-k-preserved c = search (rules, rows_written-next)

pub returns : goal.returns
returns c = search (rules, rows_written-all)
