-- The answer of the positions call as a struct.
use Rattle.grid.specs.Answer.{Answer, accept, refuse}
use Rattle.sourcepos.specs.PositionsCall.{PositionsFound}
use Rattle.replies.specs.declared.source_positions.PositionsReply.{PositionsReply}

abbrev pub positions_reply_of : Answer PositionsFound → PositionsReply
positions_reply_of (accept p) =
    record {
      number = 0;
      place = 0;
      start_line = p.table.start_line;
      start_column = p.table.start_column;
      end_line = p.table.end_line;
      end_column = p.table.end_column;
      rows = p.rows;
      cells = p.cells;
    }
positions_reply_of (refuse number place) =
    record {
      number = number;
      place = place;
      start_line = 0;
      start_column = 0;
      end_line = 0;
      end_column = 0;
      rows = 0;
      cells = 0;
    }
