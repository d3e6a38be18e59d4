-- The cells of lines at column 0.
use Rattle.std.specs.Prelude.{ℕ, List}
use Rattle.grid.specs.Read.{read_table}
use Rattle.grid.specs.CellListing.{cells_listed}
use Rattle.input_lines.specs.Sheet.{lines_at0}

abbrev pub lines_listed : List (List ℕ) → List ℕ
lines_listed texts = cells_listed (read_table (lines_at0 texts))
