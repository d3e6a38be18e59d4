-- `layout::cell_entries::write_spans` meets its contract. The invariant: the entries of the first k cells are written, whatever the array's numbers are.
use Rattle.layout.proofs.cell_entries.CellEntryLaws.{SpansWritten}
use Rattle.layout.proofs.cell_entries.write_spans.Given as goal

abbrev pub invariant-loop-k : goal.invariant-loop-k
invariant-loop-k l = SpansWritten l.rects l.rows l.columns l.more l.step l.from l.initial.out l.k l.out
