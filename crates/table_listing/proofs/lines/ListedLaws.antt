-- From what the table call tells to the cells that are printed.
use Prim.Native.Nat.{ℕ}
use mathlib.Core.Path.{◌≡◌, ap, sym, ◌∙◌}
use mathlib.Core.List.{List, ◌++◌, flat_map}
use Rattle.grid.specs.Flat.{split_text, TableSizes, TableArrays, table_of_arrays}
use Rattle.grid.specs.CellListing.{sizes_line, cell_listed, cells_listed}
use Rattle.grid.specs.Listing.{refused_line}
use Rattle.grid.specs.Answer.{refuse}
use Rattle.grid.specs.Read.{read_table}
use Rattle.input_lines.specs.Sheet.{lines_at0}
use Rattle.input_table.specs.Told.{TableHeld}
use Rattle.table_listing.specs.Printing.{cells_of, table_listed}
use Rattle.table_listing.specs.Listed.{lines_listed}

-- the sizes and arrays of a table that the lines are read as give its cells
pub held-listed : {lengths text : List ℕ} {s : TableSizes} {t : TableArrays} → TableHeld lengths text s t
    → table_listed s.columns s.rows s.cells t.cells t.lengths t.text ≡ lines_listed (split_text lengths text)
unfolding table_listed cells_of table_of_arrays
held-listed {lengths} {text} {s} {t} h =
    rw (h.line_count, h.byte_count)
    (ap (λ (z : TableSizes). sizes_line z ++ flat_map cell_listed (table_of_arrays s t).cells) (sym h.sizes) ∙ ap cells_listed (sym h.read))

-- and a refusal its line
pub refused-listed : (lengths text : List ℕ) {number place : ℕ} → read_table (lines_at0 (split_text lengths text)) ≡ refuse number place
    → refused_line number place ≡ lines_listed (split_text lengths text)
refused-listed lengths text told = sym (ap cells_listed told)
