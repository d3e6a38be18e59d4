-- The answer of the redraw call as a struct.
use Rattle.grid.specs.Answer.{Answer, accept, refuse}
use Rattle.drawing.specs.RedrawCall.{DrawingSizes}
use Rattle.replies.specs.declared.redraws.RedrawReply.{RedrawReply}

abbrev pub redraw_reply_of : Answer DrawingSizes → RedrawReply
redraw_reply_of (accept s) = record { number = 0; place = 0; lines = s.lines; bytes = s.bytes }
redraw_reply_of (refuse number place) = record { number = number; place = place; lines = 0; bytes = 0 }
