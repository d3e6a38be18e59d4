-- `cm::split::first_split` meets its contract. The invariant: no cell before k splits.
use Rattle.cm.specs.Bears.{board_of}
use Rattle.cm.proofs.split.FirstLaws.{Unsplit}
use Rattle.cm.proofs.split.first_split.Given as goal

abbrev pub invariant-loop-k : goal.invariant-loop-k
invariant-loop-k l = Unsplit l.board.cells l.board.width.0 (board_of l.board) l.board.canvas.now l.board.origin.0 l.k
