-- A table in the arrays that redraw is lent, once the checks up to 8 have let it pass.
use Rattle.std.specs.Prelude.{ℕ, ◌+◌, ◌*◌, ◌≡◌, true, List, [], map, length, get_or, take, drop, ltb}
use Rattle.seq.specs.Lists.{sum, all}
use Rattle.grid.specs.Values.{TableCell, Table}
use Rattle.grid.specs.Flat.{code_section, columns_of_array, cells_of_array, every_nth, split_text}
use Rattle.drawing.specs.RoundTrip.{Keeps}

-- the table of these arrays, of so many columns and cells
abbrev pub table_in : (columns n : ℕ) → (cols sections cells lengths text : List ℕ) → Table
table_in columns n cols sections cells lengths text =
    record {
      columns = columns_of_array columns cols;
      sections = map code_section sections;
      cells = cells_of_array n cells (split_text lengths text);
    }

-- how many lines each cell has
abbrev pub counts_in : ℕ → List ℕ → List ℕ
counts_in n cells = every_nth 5 n (drop 4 cells)

-- the arrays agree with their sizes, every code is one, and the table keeps the rules, the characters and the limits
pub record Tabled (origin columns n : ℕ) (cols sections cells lengths text : List ℕ) : Type 0 where
  pub cols_room : length cols ≡ 2 * columns
  pub cells_room : length cells ≡ 5 * n
  pub lines_agree : sum (counts_in n cells) ≡ length lengths
  pub bytes_agree : sum lengths ≡ length text
  pub alignments : all (λ code. ltb code 4) (every_nth 2 columns cols) ≡ true
  pub section_codes : all (λ code. ltb code 3) sections ≡ true
  pub keeps : Keeps origin (table_in columns n cols sections cells lengths text)

-- cell k of the array, of whatever lines are handed on
abbrev pub no_cell : TableCell
no_cell = record { row = 0; column = 0; colspan = 0; rowspan = 0; lines = [] }

abbrev pub cell_in : List ℕ → List (List ℕ) → ℕ → TableCell
cell_in cells lines k =
    record {
      row = get_or cells (5 * k) 0;
      column = get_or cells (5 * k + 1) 0;
      colspan = get_or cells (5 * k + 2) 0;
      rowspan = get_or cells (5 * k + 3) 0;
      lines = take (get_or cells (5 * k + 4) 0) (drop (sum (counts_in k cells)) lines);
    }
