-- The listing's lines as they follow from the arrays of a layout.
use Rattle.std.specs.Prelude.{ℕ, zero, suc, ◌+◌, ◌*◌, ◌-◌, List, [], ◌∷◌, ◌++◌, drop, get_or}
use Rattle.seq.specs.Ascii.{ascii}
use Rattle.seq.specs.Decimal.{decimal}
use Rattle.grid.specs.Values.{GridTableColumn, Row}
use Rattle.grid.specs.Flat.{code_alignment, code_section, columns_of_array}
use Rattle.grid.specs.Listing.{printed, numbered, column_line, row_line}
use Rattle.printing.specs.Printing.{cell_printed}

-- a column and a row from their entries
abbrev pub column_of : ℕ → ℕ → GridTableColumn
column_of alignment width = record { alignment = code_alignment alignment; width = width }

abbrev pub row_of : ℕ → ℕ → ℕ → Row
row_of section top bottom = record { section = code_section section; top = top; bottom = bottom }

unfoldable pub rows_of_array : ℕ → List ℕ → List Row
rows_of_array zero array = []
rows_of_array (suc n) array = row_of (get_or array 0 0) (get_or array 1 0) (get_or array 2 0) ∷ rows_of_array n (drop 3 array)

-- the lines strictly between the top of a cell's first row and the bottom of its last
abbrev pub inner_height : List ℕ → ℕ → ℕ → ℕ
inner_height rows row rowspan = get_or rows (3 * (row + rowspan) - 1) 0 - get_or rows (3 * row + 1) 0 - 1

abbrev pub grid_printed : ℕ → ℕ → ℕ → ℕ → ℕ → List ℕ
grid_printed width height across down count =
    printed (ascii "grid" ∷ decimal width ∷ decimal height ∷ decimal across ∷ decimal down ∷ decimal count ∷ [])

unfoldable pub cells_printed : ℕ → List ℕ → List ℕ → List ℕ
cells_printed zero rows array = []
cells_printed (suc n) rows array =
    cell_printed array 0 (inner_height rows (get_or array 0 0) (get_or array 3 0)) ++ cells_printed n rows (drop 5 array)

-- the listing of an accepted layout, from the sizes and the entries of columns, rows and cells
unfoldable pub table_printed : ℕ → ℕ → ℕ → ℕ → ℕ → List ℕ → List ℕ → List ℕ → List ℕ
table_printed width height across down count columns rows cells =
    grid_printed width height across down count ++ numbered column_line 0 (columns_of_array across columns)
    ++ numbered row_line 0 (rows_of_array down rows) ++ cells_printed count rows cells
