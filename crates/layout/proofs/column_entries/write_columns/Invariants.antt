-- `layout::column_entries::write_columns` meets its contract. The invariant: the entries of the first k columns are written.
use Rattle.layout.proofs.column_entries.ColumnEntryLaws.{ColumnsWritten}
use Rattle.layout.proofs.column_entries.write_columns.Given as goal

abbrev pub invariant-loop-k : goal.invariant-loop-k
invariant-loop-k l = ColumnsWritten l.line l.columns l.initial.out l.k l.out
