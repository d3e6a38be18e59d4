-- What the program `page` prints for what it reads: the page of the sheet's table, its text escaped; a refusal as in the listing.
use Rattle.std.specs.Prelude.{ℕ, Bool, List, [], ◌∷◌, map, length}
use Rattle.seq.specs.Lists.{sum}
use Rattle.grid.specs.Answer.{Answer, accept, refuse, and_then}
use Rattle.grid.specs.Values.{TableCell, Table}
use Rattle.grid.specs.Read.{read_table}
use Rattle.grid.specs.Listing.{lines_read, refused_line}
use Rattle.html.specs.PageCall.{PageSizes, page_bytes}
use Rattle.html.specs.Escaping.{inner_of}

-- a cell whose one line is its inner bytes
abbrev pub escaped_cell : TableCell → TableCell
escaped_cell c = record { row = c.row; column = c.column; colspan = c.colspan; rowspan = c.rowspan; lines = inner_of c.lines ∷ [] }

abbrev pub escaped_table : Table → Table
escaped_table t = record { columns = t.columns; sections = t.sections; cells = map escaped_cell t.cells }

abbrev pub escaped_sizes : Table → PageSizes
escaped_sizes t =
    record {
      columns = length t.columns;
      rows = length t.sections;
      cells = length t.cells;
      bytes = sum (map (λ (c : TableCell). length (inner_of c.lines)) t.cells);
    }

abbrev pub page_listed : Answer (List ℕ) → List ℕ
page_listed (accept bytes) = bytes
page_listed (refuse number place) = refused_line number place

unfoldable pub page_listing : Bool → List ℕ → List ℕ
page_listing widths input = page_listed (and_then (read_table (lines_read input)) (λ t. page_bytes widths (escaped_sizes t) (escaped_table t)))
