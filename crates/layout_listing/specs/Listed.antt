-- The listing of lines at column 0, and what the layout call tells of it.
use Rattle.std.specs.Prelude.{ℕ, ◌≤◌, ◌≡◌, List, length, Result, MatchResult}
use Rattle.grid.specs.Flat.{split_text}
use Rattle.grid.specs.Read.{read_layout}
use Rattle.grid.specs.Listing.{listed, refused_line}
use Rattle.layout.specs.declared.LayoutSizes.{LayoutSizes}
use Rattle.refusals.specs.Refusal.{number_of, place_of}
use Rattle.refusals.specs.declared.Refusal.{Refusal}
use Rattle.layout_listing.specs.Printing.{table_printed}
use Rattle.input_lines.specs.Sheet.{lines_at0}

abbrev pub listed_lines : List (List ℕ) → List ℕ
listed_lines texts = listed (lines_at0 texts) (read_layout (lines_at0 texts))

-- the answer and the arrays of columns, rows and cells give the listing of the lines
abbrev pub LayoutTold : List ℕ → List ℕ → List ℕ → List ℕ → List ℕ → Result LayoutSizes Refusal → Type 0
LayoutTold lengths text cols rows cells r =
    MatchResult r
    (λ s. (s.columns ≤ 127) × (s.rows ≤ 127) × (s.cells ≤ 1024)
    × (table_printed s.width.0 (length lengths) s.columns s.rows s.cells cols rows cells ≡ listed_lines (split_text lengths text)))
    (λ e. refused_line (number_of e) (place_of e) ≡ listed_lines (split_text lengths text))
