-- Where the cells of an array stand, which is all of them that the grid rules look at.
use Rattle.std.specs.Prelude.{ℕ, ◌+◌, ◌*◌, ◌≤◌, ◌<◌, ◌≡◌, true, List, [], map, ltb, length, get_or}
use Rattle.seq.specs.Lists.{all}
use Rattle.grid.specs.Values.{TableCell, Table}
use Rattle.grid.specs.Flat.{code_section, columns_of_array, cells_of_array}

-- the cells without their lines
abbrev pub places_of : ℕ → List ℕ → List TableCell
places_of n cells = cells_of_array n cells []

-- their table; of the columns the rules look at the number alone
abbrev pub grid_in : (columns n : ℕ) → (sections cells : List ℕ) → Table
grid_in columns n sections cells = record { columns = columns_of_array columns []; sections = map code_section sections; cells = places_of n cells }

-- arrays of a shape that is not too large, with codes that stand for sections
pub record CellsPlaced (columns n : ℕ) (sections cells : List ℕ) : Type 0 where
  pub cells_room : length cells ≡ 5 * n
  pub narrow : columns ≤ 127
  pub low : length sections ≤ 127
  pub codes : all (λ code. ltb code 3) sections ≡ true

-- cell k has spans and lies in the grid
pub record Within (columns rows : ℕ) (cells : List ℕ) (k : ℕ) : Type 0 where
  pub broad : 0 < get_or cells (5 * k + 2) 0
  pub tall : 0 < get_or cells (5 * k + 3) 0
  pub near : get_or cells (5 * k + 1) 0 + get_or cells (5 * k + 2) 0 ≤ columns
  pub low : get_or cells (5 * k) 0 + get_or cells (5 * k + 3) 0 ≤ rows

-- every cell of them is so
pub record Laid (columns n : ℕ) (sections cells : List ℕ) : Type 0 where
  pub placed : CellsPlaced columns n sections cells
  pub within : (k : ℕ) → k < n → Within columns (length sections) cells k
