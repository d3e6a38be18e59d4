-- Document 01, "Cutting".
use Rattle.std.specs.Prelude.{ℕ, ◌+◌, ◌-◌, ◌&&◌, ◌||◌, cond, List, [], ◌∷◌, map, get_or, take, drop, eqb}
use Rattle.seq.specs.Lists.{is_empty}
use Rattle.text.specs.Characters.{space, tab, tab_columns}
use Rattle.text.specs.Trim.{trim_end}
use Rattle.grid.specs.Values.{Line, Range, Cell, Row, Layout, Fragment, TableCell, Table, no_line}

-- "the part after the left border up to the right border"
abbrev pub part : Range → List ℕ → List ℕ
part r text = take (r.end - r.start) (drop r.start text)

-- "A first space, or a first tab that takes one column, is dropped: byte and column grow by 1. A wider first tab stays and only the column grows by 1."
unfoldable pub after_first : List ℕ → ℕ → ℕ → ℕ → Fragment
after_first [] line byte column = record { text = []; line = line; byte = byte; column = column }
after_first (b ∷ bs) line byte column =
    cond (eqb b space || (eqb b tab && eqb (tab_columns column) 1))
    (record { text = bs; line = line; byte = byte + 1; column = column + 1 })
    (cond (eqb b tab) (record { text = b ∷ bs; line = line; byte = byte; column = column + 1 })
    (record { text = b ∷ bs; line = line; byte = byte; column = column }))

-- "Its byte starts as the line's table byte + range start, its column as the line's column + the cell's left column + 1"
unfoldable pub cut : Line → ℕ → ℕ → Range → ℕ → Fragment
cut given line table_byte r left =
    after_first (trim_end (part r given.text)) line (table_byte + r.start) (given.column + left + 1)

-- a cell's cut lines: its inner lines follow its row's top line. A line's number is its index and its table byte 0, as in a drawing alone
unfoldable pub cut_from : List Line → ℕ → ℕ → List Range → List Fragment
cut_from lines left y [] = []
cut_from lines left y (r ∷ rs) =
    cut (get_or lines y no_line) y 0 r left ∷ cut_from lines left (y + 1) rs

abbrev pub top_of : Layout → Cell → ℕ
top_of l c = get_or (map (λ (row : Row). row.top) l.rows) c.row 0

unfoldable pub cell_fragments : List Line → Layout → Cell → List Fragment
cell_fragments lines l c = cut_from lines c.left (top_of l c + 1) c.content

-- a line before lines whose empty last ones are dropped already
abbrev pub before_dropped : List ℕ → List (List ℕ) → List (List ℕ)
before_dropped line [] = cond (is_empty line) [] (line ∷ [])
before_dropped line (next ∷ rest) = line ∷ next ∷ rest

-- "with empty last lines dropped"
unfoldable pub drop_empty_last : List (List ℕ) → List (List ℕ)
drop_empty_last [] = []
drop_empty_last (line ∷ rest) = before_dropped line (drop_empty_last rest)

-- "A table read has these lines, with empty last lines dropped."
unfoldable pub table_cell : List Line → Layout → Cell → TableCell
table_cell lines l c =
    record {
      row = c.row;
      column = c.column;
      colspan = c.colspan;
      rowspan = c.rowspan;
      lines = drop_empty_last (map (λ (f : Fragment). f.text) (cell_fragments lines l c));
    }

unfoldable pub table_of : List Line → Layout → Table
table_of lines l =
    record {
      columns = l.columns;
      sections = map (λ (row : Row). row.section) l.rows;
      cells = map (table_cell lines l) l.cells;
    }
