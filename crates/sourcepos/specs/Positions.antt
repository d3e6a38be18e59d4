-- Document 01, "Positions": "the table goes from line 0's table byte + 1 to the last line's trimmed end; a row likewise over its inner
-- lines; a cell from its first inner line's table byte + range start + 1 to its last one's table byte + range end, the range being
-- all bytes between the borders, untrimmed; a row or cell without inner lines, from the top line's table byte + 1 to that table byte."
use Rattle.std.specs.Prelude.{ℕ, ◌+◌, ◌-◌, cond, List, [], ◌∷◌, length, get_or, ltb}
use Rattle.seq.specs.Lists.{last_or}
use Rattle.grid.specs.Values.{Line, Row, Range, Cell, Layout}
use Rattle.grid.specs.Slots.{trimmed_at}
use Rattle.grid.specs.Cut.{top_of}

-- the line and column, both from 1, at which something starts and ends
pub record Sourcepos : Type 0 where
  pub start_line : ℕ
  pub start_column : ℕ
  pub end_line : ℕ
  pub end_column : ℕ

-- a drawing whose lines have their number and the byte at which the table starts in each
pub record Placed : Type 0 where
  pub lines : List Line
  pub numbers : List ℕ
  pub table_bytes : List ℕ

abbrev pub number_at : Placed → ℕ → ℕ
number_at p y = get_or p.numbers y 0

abbrev pub table_byte_at : Placed → ℕ → ℕ
table_byte_at p y = get_or p.table_bytes y 0

-- from a line's table byte + 1 to another line's trimmed end
unfoldable pub whole_lines : Placed → ℕ → ℕ → Sourcepos
whole_lines p first last =
    record {
      start_line = number_at p first;
      start_column = table_byte_at p first + 1;
      end_line = number_at p last;
      end_column = table_byte_at p last + length (trimmed_at p.lines last);
    }

-- what has no inner line: its end stands before its start
unfoldable pub no_lines : Placed → ℕ → Sourcepos
no_lines p top =
    record { start_line = number_at p top; start_column = table_byte_at p top + 1; end_line = number_at p top; end_column = table_byte_at p top }

unfoldable pub table_position : Placed → Sourcepos
table_position p = whole_lines p 0 (length p.lines - 1)

unfoldable pub row_position : Placed → Row → Sourcepos
row_position p r = cond (ltb (r.top + 1) r.bottom) (whole_lines p (r.top + 1) (r.bottom - 1)) (no_lines p r.top)

-- the positions of a cell's ranges, the first of which stands on the line after its top
abbrev pub content_position : Placed → ℕ → List Range → Sourcepos
content_position p top [] = no_lines p top
content_position p top (r ∷ rs) =
    record {
      start_line = number_at p (top + 1);
      start_column = table_byte_at p (top + 1) + r.start + 1;
      end_line = number_at p (top + 1 + length rs);
      end_column = table_byte_at p (top + 1 + length rs) + (last_or rs r).end;
    }

unfoldable pub cell_position : Placed → Layout → Cell → Sourcepos
cell_position p l c = content_position p (top_of l c) c.content
