-- The answer of the table call as a struct.
use Rattle.grid.specs.Answer.{Answer, accept, refuse}
use Rattle.grid.specs.Flat.{TableSizes}
use Rattle.replies.specs.declared.tables.TableReply.{TableReply}

abbrev pub table_reply_of : Answer TableSizes → TableReply
table_reply_of (accept s) =
    record {
      number = 0;
      place = 0;
      columns = s.columns;
      rows = s.rows;
      cells = s.cells;
      lines = s.lines;
      bytes = s.bytes;
    }
table_reply_of (refuse number place) =
    record {
      number = number;
      place = place;
      columns = 0;
      rows = 0;
      cells = 0;
      lines = 0;
      bytes = 0;
    }
