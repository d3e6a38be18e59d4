-- What the program `cells` prints for what it reads: the table's sizes, then each cell with its place and its lines.
use Rattle.std.specs.Prelude.{ℕ, length}
use mathlib.Core.List.{List, [], ◌∷◌, ◌++◌, flat_map}
use Rattle.seq.specs.Ascii.{ascii}
use Rattle.seq.specs.Decimal.{decimal}
use Rattle.text.specs.Characters.{space}
use Rattle.grid.specs.Answer.{Answer, accept, refuse}
use Rattle.grid.specs.Values.{TableCell, Table}
use Rattle.grid.specs.Flat.{TableSizes, table_sizes}
use Rattle.grid.specs.Read.{read_table}
use Rattle.grid.specs.Listing.{line_feed, lines_read, printed, refused_line}

-- table, columns, rows, cells, lines, bytes
abbrev pub sizes_line : TableSizes → List ℕ
sizes_line s =
    printed (ascii "table" ∷ decimal s.columns ∷ decimal s.rows ∷ decimal s.cells ∷ decimal s.lines ∷ decimal s.bytes ∷ [])

-- a cell's line: two spaces, its bytes, the line's end
abbrev pub text_line : List ℕ → List ℕ
text_line text = space ∷ space ∷ text ++ line_feed ∷ []

-- cell, row, column, colspan, rowspan, lines; then the lines
abbrev pub cell_listed : TableCell → List ℕ
cell_listed c =
    printed (ascii "cell" ∷ decimal c.row ∷ decimal c.column ∷ decimal c.colspan ∷ decimal c.rowspan ∷ decimal (length c.lines) ∷ [])
    ++ flat_map text_line c.lines

-- a refusal as in the listing
abbrev pub cells_listed : Answer Table → List ℕ
cells_listed (accept t) = sizes_line (table_sizes t) ++ flat_map cell_listed t.cells
cells_listed (refuse number place) = refused_line number place

unfoldable pub cell_listing : List ℕ → List ℕ
cell_listing input = cells_listed (read_table (lines_read input))
