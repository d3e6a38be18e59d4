-- Document 01, "Listing": what the program prints for what it reads.
use Rattle.std.specs.Prelude.{ℕ, ◌+◌, cond, length, eqb}
use mathlib.Core.List.{List, [], ◌∷◌, ◌++◌, map, flat_map}
use Rattle.seq.specs.Ascii.{ascii}
use Rattle.seq.specs.Decimal.{decimal}
use Rattle.text.specs.Characters.{space}
use Rattle.text.specs.Rule.{onto_first}
use Rattle.grid.specs.Answer.{Answer, accept, refuse}
use Rattle.grid.specs.Values.{Line, GridTableColumn, Row, Cell, Layout}
use Rattle.grid.specs.Slots.{trimmed_at}
use Rattle.grid.specs.Read.{read_layout}
use Rattle.grid.specs.declared.TableAlignment.{TableAlignment}
use Rattle.grid.specs.declared.TableAlignment.TheVariants.{None, Left, Right, Center}
use Rattle.grid.specs.declared.GridTableSection.{GridTableSection}
use Rattle.grid.specs.declared.GridTableSection.TheVariants.{Head, Body, Foot}

abbrev pub line_feed : ℕ
line_feed = 0x0a

-- "line-feed-ended lines (the last may lack its feed; no byte is no line)"
unfoldable pub split_lines : List ℕ → List (List ℕ)
split_lines [] = []
split_lines (b ∷ bs) = cond (eqb b line_feed) ([] ∷ split_lines bs) (onto_first b (split_lines bs))

-- "at column 0"
unfoldable pub lines_read : List ℕ → List Line
lines_read input = map (λ t. record { text = t; column = 0 }) (split_lines input)

-- "(N, L, R, C)" and "(H, B, F)"
abbrev pub alignment_letter : TableAlignment → List ℕ
alignment_letter None = 0x4e ∷ []
alignment_letter Left = 0x4c ∷ []
alignment_letter Right = 0x52 ∷ []
alignment_letter Center = 0x43 ∷ []

abbrev pub section_letter : GridTableSection → List ℕ
section_letter Head = 0x48 ∷ []
section_letter Body = 0x42 ∷ []
section_letter Foot = 0x46 ∷ []

-- words "parted by single spaces", and the line's end
unfoldable pub printed : List (List ℕ) → List ℕ
printed [] = line_feed ∷ []
printed (word ∷ []) = word ++ (line_feed ∷ [])
printed (word ∷ next ∷ words) = word ++ space ∷ printed (next ∷ words)

-- the lines of a list, each with its index
unfoldable pub numbered : {A : Type 0} → (ℕ → A → List ℕ) → ℕ → List A → List ℕ
numbered line index [] = []
numbered line index (a ∷ rest) = line index a ++ numbered line (index + 1) rest

-- "grid, width, height, columns, rows, cells"
abbrev pub grid_line : List Line → Layout → List ℕ
grid_line lines l =
    printed (ascii "grid" ∷ decimal (length (trimmed_at lines 0)) ∷ decimal (length lines) ∷ decimal (length l.columns)
    ∷ decimal (length l.rows) ∷ decimal (length l.cells) ∷ [])

-- "col, index, width, alignment"
abbrev pub column_line : ℕ → GridTableColumn → List ℕ
column_line index c = printed (ascii "col" ∷ decimal index ∷ decimal c.width ∷ alignment_letter c.alignment ∷ [])

-- "row, index, section, top, bottom"
abbrev pub row_line : ℕ → Row → List ℕ
row_line index r = printed (ascii "row" ∷ decimal index ∷ section_letter r.section ∷ decimal r.top ∷ decimal r.bottom ∷ [])

-- "cell, row, column, colspan, rowspan, inner lines"
abbrev pub cell_line : Cell → List ℕ
cell_line c =
    printed (ascii "cell" ∷ decimal c.row ∷ decimal c.column ∷ decimal c.colspan ∷ decimal c.rowspan
    ∷ decimal (length c.content) ∷ [])

-- "A refusal prints `refused`, number, place."
abbrev pub refused_line : ℕ → ℕ → List ℕ
refused_line number place = printed (ascii "refused" ∷ decimal number ∷ decimal place ∷ [])

abbrev pub listed : List Line → Answer Layout → List ℕ
listed lines (accept l) =
    grid_line lines l ++ numbered column_line 0 l.columns ++ numbered row_line 0 l.rows ++ flat_map cell_line l.cells
listed lines (refuse number place) = refused_line number place

unfoldable pub listing : List ℕ → List ℕ
listing input = listed (lines_read input) (read_layout (lines_read input))
