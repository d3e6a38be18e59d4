-- `cell::pieces::line_starts` meets its contract. The invariant: the first y lines are noted, and `at` is where line y starts.
use Rattle.cell.proofs.pieces.PieceLaws.{Starting}
use Rattle.cell.proofs.pieces.line_starts.Given as goal

abbrev pub invariant-loop-y : goal.invariant-loop-y
invariant-loop-y l = Starting l.lengths l.initial.starts l.starts l.at l.y
