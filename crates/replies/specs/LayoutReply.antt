-- An answer as the struct that is handed out: 0 is acceptance, and what an answer does not have is 0.
use Rattle.grid.specs.Answer.{Answer, accept, refuse}
use Rattle.grid.specs.LayoutCall.{LayoutSizes}
use Rattle.replies.specs.declared.layouts.LayoutReply.{LayoutReply}

abbrev pub layout_reply_of : Answer LayoutSizes → LayoutReply
layout_reply_of (accept s) =
    record {
      number = 0;
      place = 0;
      width = s.width;
      columns = s.columns;
      rows = s.rows;
      cells = s.cells;
      ranges = s.ranges;
    }
layout_reply_of (refuse number place) =
    record {
      number = number;
      place = place;
      width = 0;
      columns = 0;
      rows = 0;
      cells = 0;
      ranges = 0;
    }
