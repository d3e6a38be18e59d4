-- A table in the arrays that the page call is lent, and where its page has come to.
use Rattle.std.specs.Prelude.{ℕ, ◌+◌, ◌*◌, ◌/◌, ◌≤◌, ◌<◌, ◌≡◌, true, List, [], ◌∷◌, map, ltb, length, get_or, take, drop}
use Rattle.seq.specs.Lists.{sum, all}
use Rattle.grid.specs.Values.{GridTableColumn, TableCell, Table}
use Rattle.grid.specs.Flat.{code_section, columns_of_array}
use Rattle.html.specs.Shares.{share_of}
use Rattle.html.specs.Page.{col_tag}
use Rattle.html.specs.PageCall.{page_cells}
use Rattle.representation.specs.TableIn.{counts_in}

-- the columns of an array that holds two numbers for each
abbrev pub columns_in : List ℕ → List GridTableColumn
columns_in cols = columns_of_array (length cols / 2) cols

-- the tag of a column, where all widths together are `total`
unfoldable pub col_of : ℕ → GridTableColumn → List ℕ
col_of total c = col_tag (share_of c.width total)

-- the table of these arrays, of so many cells
abbrev pub page_in : ℕ → (cols sections cells inner : List ℕ) → Table
page_in n cols sections cells inner = record { columns = columns_in cols; sections = map code_section sections; cells = page_cells n cells inner }

-- cell k, its inner bytes from `from` on
abbrev pub cell_at : (cells inner : List ℕ) → (k from : ℕ) → TableCell
cell_at cells inner k from =
    record {
      row = get_or cells (5 * k) 0;
      column = get_or cells (5 * k + 1) 0;
      colspan = get_or cells (5 * k + 2) 0;
      rowspan = get_or cells (5 * k + 3) 0;
      lines = take (get_or cells (5 * k + 4) 0) (drop from inner) ∷ [];
    }

-- what the page reads of it is there
pub record CellGiven (cols cells inner : List ℕ) (k from : ℕ) : Type 0 where
  pub entries : 5 * k + 4 < length cells
  pub column : get_or cells (5 * k + 1) 0 < length cols / 2
  pub bytes : from + get_or cells (5 * k + 4) 0 ≤ length inner
  pub small : length inner ≤ 32768

-- cells in order of row, each in a column, and the bytes of all of them
pub record Celled (n : ℕ) (cols cells inner : List ℕ) : Type 0 where
  pub few : n ≤ 1024
  pub cells_room : length cells ≡ 5 * n
  pub bytes_agree : sum (counts_in n cells) ≡ length inner
  pub small : length inner ≤ 32768
  pub column : (k : ℕ) → k < n → get_or cells (5 * k + 1) 0 < length cols / 2
  pub rising : (i j : ℕ) → i ≤ j → j < n → get_or cells (5 * i) 0 ≤ get_or cells (5 * j) 0

-- a table that passed the checks up to 8
pub record Paged (columns n : ℕ) (cols sections cells inner : List ℕ) : Type 0 where
  pub cols_room : length cols ≡ 2 * columns
  pub few_columns : columns ≤ 127
  pub few_rows : length sections ≤ 127
  pub codes : all (λ code. ltb code 3) sections ≡ true
  pub celled : Celled n cols cells inner

-- the page goes on with cell k, whose inner bytes start at `from`: those before it start above row `below`, the others in row `above` or after
pub record Standing (n : ℕ) (cells : List ℕ) (above below k from : ℕ) : Type 0 where
  pub few : k ≤ n
  pub offset : from ≡ sum (counts_in k cells)
  pub before : (j : ℕ) → j < k → get_or cells (5 * j) 0 < below
  pub after : (j : ℕ) → k ≤ j → j < n → above ≤ get_or cells (5 * j) 0
