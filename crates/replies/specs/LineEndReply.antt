-- The answers of the register calls as structs.
use Rattle.std.specs.Prelude.{ℕ}
use Rattle.std.proofs.Math.Option.{Option, none, some}
use Rattle.grid.specs.Answer.{Answer, accept, refuse}
use Rattle.sourcepos.specs.declared.CellLineEnd.{CellLineEnd}
use Rattle.replies.specs.declared.registers.AddReply.{AddReply}
use Rattle.replies.specs.declared.registers.FindReply.{FindReply}
use Rattle.replies.specs.declared.registers.RemapReply.{RemapReply}

abbrev pub add_reply_of : Answer ℕ → AddReply
add_reply_of (accept count) = record { number = 0; place = 0; count = count }
add_reply_of (refuse number place) = record { number = number; place = place; count = 0 }

abbrev pub find_reply_of : Answer (Option ℕ) → FindReply
find_reply_of (accept (some eol)) = record { number = 0; place = 0; found = 1; eol = eol }
find_reply_of (accept none) = record { number = 0; place = 0; found = 0; eol = 0 }
find_reply_of (refuse number place) = record { number = number; place = place; found = 0; eol = 0 }

abbrev pub remap_reply_of : Answer CellLineEnd → RemapReply
remap_reply_of (accept e) = record { number = 0; place = 0; line = e.line; start = e.start; eol = e.eol }
remap_reply_of (refuse number place) = record { number = number; place = place; line = 0; start = 0; eol = 0 }
