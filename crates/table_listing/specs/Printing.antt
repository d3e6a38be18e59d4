-- What the functions that print cells write, as it follows from the arrays of a table.
use Rattle.std.specs.Prelude.{ℕ, ◌+◌, ◌*◌, ◌≤◌, ◌≡◌, length, drop}
use mathlib.Core.List.{List, ◌++◌, flat_map}
use Rattle.seq.specs.Lists.{sum}
use Rattle.grid.specs.Flat.{split_text, cells_of_array}
use Rattle.grid.specs.CellListing.{sizes_line, text_line, cell_listed}
use Rattle.printing.specs.Printing.{Put}
use Rattle.table_listing.specs.declared.print.Written.{Written}

-- the lines of these lengths were written, and this many bytes of the text used
pub record TextPut (lengths text before after : List ℕ) (at : ℕ) (r : Written) : Type 0 where
  pub within : r.bytes ≤ length text
  pub left : drop r.bytes text ≡ drop (sum lengths) text
  pub put : Put (3 * length lengths + r.bytes) before after at r.at (flat_map text_line (split_text lengths text))

-- the cells of a table's arrays
unfoldable pub cells_of : ℕ → List ℕ → List ℕ → List ℕ → List ℕ
cells_of count cells lengths text = flat_map cell_listed (cells_of_array count cells (split_text lengths text))

-- an accepted table, from its sizes and arrays
unfoldable pub table_listed : ℕ → ℕ → ℕ → List ℕ → List ℕ → List ℕ → List ℕ
table_listed across down count cells lengths text =
    sizes_line (record { columns = across; rows = down; cells = count; lines = length lengths; bytes = length text })
    ++ cells_of count cells lengths text
