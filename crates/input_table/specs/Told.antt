-- What the table call tells of the table that lines at column 0 are read as.
use Rattle.std.specs.Prelude.{ℕ, ◌*◌, ◌-◌, ◌≤◌, ◌≡◌, false, List, length, take, Result, Ok, Err}
use Rattle.grid.specs.Answer.{accept, refuse}
use Rattle.grid.specs.Read.{read_table}
use Rattle.grid.specs.Flat as flat
use Rattle.grid.specs.Flat.{split_text, TableArrays, table_contradicts, table_of_arrays, table_sizes}
use Rattle.drawing.specs.RedrawCall.{table_lent}
use Rattle.refusals.specs.declared.Refusal.{Refusal}
use Rattle.refusals.specs.Refusal.{number_of, place_of}
use Rattle.representation.specs.declared.lent.Table.{Table}
use Rattle.representation.specs.Lent.{sizes_of, arrays_of}
use Rattle.table.specs.declared.TableSizes.{TableSizes}
use Rattle.table.specs.Call.{sizes_of as sizes_in}
use Rattle.input_lines.specs.Sheet.{lines_at0}

-- the parts of the arrays that hold a table of these sizes
abbrev pub parts_of : flat.TableSizes → TableArrays → TableArrays
parts_of s a =
    table_lent (take (2 * s.columns - 0) a.columns) (take (s.rows - 0) a.sections) (take (5 * s.cells - 0) a.cells)
    (take (s.lines - 0) a.lengths) (take (s.bytes - 0) a.text)

-- the sizes and arrays are of the table that the lines are read as
pub record TableHeld (lengths text : List ℕ) (s : flat.TableSizes) (t : TableArrays) : Type 0 where
  pub columns : s.columns ≤ 127
  pub rows : s.rows ≤ 127
  pub cells : s.cells ≤ 1024
  pub lines : s.lines ≤ 16384
  pub bytes : s.bytes ≤ 32768
  pub agree : table_contradicts s t ≡ false
  pub read : read_table (lines_at0 (split_text lengths text)) ≡ accept (table_of_arrays s t)
  pub sizes : table_sizes (table_of_arrays s t) ≡ s
  pub line_count : length t.lengths ≡ s.lines
  pub byte_count : length t.text ≡ s.bytes

-- what the call tells by its sizes and the arrays afterwards
abbrev pub SizesTold : List ℕ → List ℕ → TableArrays → Result TableSizes Refusal → Type 0
SizesTold lengths text after (Ok s) = TableHeld lengths text (sizes_in s) (parts_of (sizes_in s) after)
SizesTold lengths text after (Err e) = read_table (lines_at0 (split_text lengths text)) ≡ refuse (number_of e) (place_of e)

-- and by the table lent
abbrev pub TableTold : List ℕ → List ℕ → Result Table Refusal → Type 0
TableTold lengths text (Ok t) = TableHeld lengths text (sizes_of t) (arrays_of t)
TableTold lengths text (Err e) = read_table (lines_at0 (split_text lengths text)) ≡ refuse (number_of e) (place_of e)
