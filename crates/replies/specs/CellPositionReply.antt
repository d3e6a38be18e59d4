-- The answer of the cell position call as a struct.
use Rattle.grid.specs.Answer.{Answer, accept, refuse}
use Rattle.sourcepos.specs.Positions.{Sourcepos}
use Rattle.replies.specs.declared.source_positions.CellPositionReply.{CellPositionReply}

abbrev pub cell_position_reply_of : Answer Sourcepos → CellPositionReply
cell_position_reply_of (accept s) =
    record {
      number = 0;
      place = 0;
      start_line = s.start_line;
      start_column = s.start_column;
      end_line = s.end_line;
      end_column = s.end_column;
    }
cell_position_reply_of (refuse number place) =
    record {
      number = number;
      place = place;
      start_line = 0;
      start_column = 0;
      end_line = 0;
      end_column = 0;
    }
