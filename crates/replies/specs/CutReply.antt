-- The answer of the cutting call as a struct.
use Rattle.grid.specs.Answer.{Answer, accept, refuse}
use Rattle.grid.specs.CutCall.{CutNumbers}
use Rattle.replies.specs.declared.fragment.CutReply.{CutReply}

abbrev pub cut_reply_of : Answer CutNumbers → CutReply
cut_reply_of (accept c) =
    record {
      number = 0;
      place = 0;
      start = c.start;
      end = c.end;
      line = c.line;
      byte = c.byte;
      column = c.column;
    }
cut_reply_of (refuse number place) =
    record {
      number = number;
      place = place;
      start = 0;
      end = 0;
      line = 0;
      byte = 0;
      column = 0;
    }
