-- `table_checks::starts::starts` meets its contract. The invariant: the starts of the first k cells are marked.
use Rattle.representation.specs.Edges.{Marks}
use Rattle.table_checks.specs.Entries.{entries}
use Rattle.table_checks.proofs.starts.starts.Given as goal

abbrev pub invariant-loop-k : goal.invariant-loop-k
invariant-loop-k l = Marks (entries l.from 5 l.k l.cells) l.marks.each
