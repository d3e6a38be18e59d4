-- The positions of the first k rows are written.
use Rattle.std.proofs.Common.{ℕ, List}
use Rattle.positions.specs.Lent.{started_by}
use Rattle.positions.proofs.rows.RowLaws.{RowSpansWritten}
use Rattle.positions.proofs.rows.StartedLines.write_rows.Given as goal

abbrev pub invariant-loop-k : goal.invariant-loop-k
invariant-loop-k l = (columns : List ℕ) → RowSpansWritten (started_by l.self columns) l.rows l.initial.out l.k l.out
