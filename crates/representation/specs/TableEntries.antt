-- The entries of a table's rows and cells, from its lines and rectangles.
use Rattle.std.specs.Prelude.{ℕ, ◌-◌}
use mathlib.Core.List.{List, [], ◌∷◌, map, flat_map}
use Rattle.grid.specs.Values.{Rect}
use Rattle.grid.specs.Layout.{Between, between, index_of}
use Rattle.representation.specs.LayoutEntries.{section_from}
use Rattle.representation.specs.declared.Parts.{Parts}

-- each row's section
abbrev pub section_entries : Parts → List ℕ → List ℕ
section_entries p lines = map (λ (b : Between). section_from p b.from) (between lines)

-- each cell's row, column, colspan, rowspan and number of lines
abbrev pub table_entry : (Rect → ℕ) → List ℕ → List ℕ → Rect → List ℕ
table_entry count rows columns r =
    index_of rows r.top ∷ index_of columns r.left ∷ (index_of columns r.right - index_of columns r.left)
    ∷ (index_of rows r.bottom - index_of rows r.top) ∷ count r ∷ []

abbrev pub table_entries : (Rect → ℕ) → List ℕ → List ℕ → List Rect → List ℕ
table_entries count rows columns rs = flat_map (table_entry count rows columns) rs
