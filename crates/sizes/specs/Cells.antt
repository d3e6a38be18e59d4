-- What is gathered of the cells of a table.
use Rattle.std.specs.Prelude.{ℕ, ◌+◌, ◌*◌, ◌≤◌, ◌<◌, ◌≡◌, List, length, get_or}
use Rattle.seq.specs.Lists.{sum}
use Rattle.text.specs.Lines.{no_text}
use Rattle.grid.specs.Cut.{drop_empty_last}
use Rattle.grid.specs.Same.{drawn_lines}
use Rattle.grid.specs.Values.{TableCell}
use Rattle.drawing.specs.Sizes.{widest}
use Rattle.representation.specs.TableIn.{counts_in, no_cell}
use Rattle.sizes.specs.Lines.{lines_at}

-- for each cell the number of its first line, how many of its lines are drawn, and the columns of the widest of them and one
pub record Gathered (ts : List TableCell) (lines : List (List ℕ)) (firsts heights wides : List ℕ) : Type 0 where
  pub first_room : length ts ≤ length firsts
  pub height_room : length ts ≤ length heights
  pub wide_room : length ts ≤ length wides
  pub placed : (k i : ℕ) → k < length ts → i < length (get_or ts k no_cell).lines
      → (get_or firsts k 0 + i < length lines) × (get_or lines (get_or firsts k 0 + i) no_text ≡ get_or (get_or ts k no_cell).lines i no_text)
  pub tall : (k : ℕ) → k < length ts → get_or heights k 0 ≡ length (drawn_lines (get_or ts k no_cell).lines)
  pub wide : (k : ℕ) → k < length ts → get_or wides k 0 ≡ widest (drawn_lines (get_or ts k no_cell).lines) + 1

-- the trimmed lines of cell k of the array, without empty last ones
abbrev pub cell_lines : (cells text starts ends : List ℕ) → ℕ → List (List ℕ)
cell_lines cells text starts ends k = drop_empty_last (lines_at text starts ends (sum (counts_in k cells)) (get_or cells (5 * k + 4) 0))

-- the same of the first n cells of the array, by the starts and ends of the lines
pub record Counted (cells text starts ends : List ℕ) (n : ℕ) (firsts heights wides : List ℕ) : Type 0 where
  pub first_room : n ≤ length firsts
  pub height_room : n ≤ length heights
  pub wide_room : n ≤ length wides
  pub first : (k : ℕ) → k < n → get_or firsts k 0 ≡ sum (counts_in k cells)
  pub tall : (k : ℕ) → k < n → get_or heights k 0 ≡ length (cell_lines cells text starts ends k)
  pub wide : (k : ℕ) → k < n → get_or wides k 0 ≡ widest (cell_lines cells text starts ends k) + 1
