-- `table::sections::write_sections` meets its contract. The invariant: the sections of the first k rows are written.
use Rattle.table.proofs.sections.WriteLaws.{SectionsWritten}
use Rattle.table.proofs.sections.write_sections.Given as goal

abbrev pub invariant-loop-k : goal.invariant-loop-k
invariant-loop-k l = SectionsWritten l.parts l.tops l.initial.out l.k l.out
