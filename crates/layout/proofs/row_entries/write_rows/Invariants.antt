-- `layout::row_entries::write_rows` meets its contract. The invariant: the entries of the first k rows are written.
use Rattle.layout.proofs.row_entries.RowEntryLaws.{RowsWritten}
use Rattle.layout.proofs.row_entries.write_rows.Given as goal

abbrev pub invariant-loop-k : goal.invariant-loop-k
invariant-loop-k l = RowsWritten l.parts l.rows l.initial.out l.k l.out
