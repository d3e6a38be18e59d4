-- The answer of the cell call as a struct.
use Rattle.std.specs.Prelude.{ℕ}
use Rattle.grid.specs.Answer.{Answer, accept, refuse}
use Rattle.replies.specs.declared.cells.CellReply.{CellReply}

abbrev pub cell_reply_of : Answer ℕ → CellReply
cell_reply_of (accept lines) = record { number = 0; place = 0; lines = lines }
cell_reply_of (refuse number place) = record { number = number; place = place; lines = 0 }
