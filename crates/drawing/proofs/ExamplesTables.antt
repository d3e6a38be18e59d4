-- What the computed examples share: tables to draw, and a redraw shown as text.
use mathlib.Core.List.{List, [], ◌∷◌, ◌++◌, flat_map}
use Prim.Native.Nat.{ℕ}
use lib.ListN.{replicate}
use Rattle.seq.specs.Ascii.{ascii}
use Rattle.seq.specs.Decimal.{decimal}
use Rattle.grid.specs.Answer.{Answer, accept, refuse}
use Rattle.grid.specs.Values.{Line, GridTableColumn, TableCell, Table}
use Rattle.grid.specs.declared.TableAlignment.{TableAlignment}
use Rattle.grid.specs.declared.TableAlignment.TheVariants.{None, Center}
use Rattle.grid.specs.declared.GridTableSection.{GridTableSection}
use Rattle.grid.specs.declared.GridTableSection.TheVariants.{Body}

-- a drawing's lines, each ended by a line feed; a refusal's number and place
abbrev pub shown : Answer (List Line) → List ℕ
shown (accept lines) = flat_map (λ (line : Line). line.text ++ ascii "\n") lines
shown (refuse number place) = ascii "refused " ++ decimal number ++ ascii " " ++ decimal place

abbrev pub col : TableAlignment → ℕ → GridTableColumn
col a w = record { alignment = a; width = w }

abbrev pub cell : ℕ → ℕ → ℕ → ℕ → List (List ℕ) → TableCell
cell r k across down lines = record { row = r; column = k; colspan = across; rowspan = down; lines = lines }

abbrev pub text1 : List ℕ → List (List ℕ)
text1 line = line ∷ []

-- U+0301, a mark that takes no column, and 254 of them
abbrev pub mark : List ℕ
mark = 0xcc ∷ 0x81 ∷ []

abbrev pub marks : List ℕ
marks = flat_map (λ (b : ℕ). mark) (replicate 254 0)

-- one cell in a column of declared width w
abbrev pub declared : ℕ → TableAlignment → GridTableSection → List (List ℕ) → Table
declared w a s lines = record { columns = col a w ∷ []; sections = s ∷ []; cells = cell 0 0 1 1 lines ∷ [] }

abbrev pub alone : TableAlignment → GridTableSection → List (List ℕ) → Table
alone a s lines = declared 0 a s lines

-- two columns under one spanning top cell
abbrev pub under_of : GridTableSection → TableAlignment → TableAlignment → List (List ℕ) → Table
under_of s a b top =
    record {
      columns = col a 0 ∷ col b 0 ∷ [];
      sections = s ∷ s ∷ [];
      cells = cell 0 0 2 1 top ∷ cell 1 0 1 1 [] ∷ cell 1 1 1 1 [] ∷ [];
    }

abbrev pub under : TableAlignment → TableAlignment → List (List ℕ) → Table
under a b top = under_of Body a b top

-- three rows, the middle one a single cell
abbrev pub parts : GridTableSection → GridTableSection → GridTableSection → Table
parts a b c =
    record {
      columns = col Center 4 ∷ col None 1 ∷ [];
      sections = a ∷ b ∷ c ∷ [];
      cells = cell 0 0 1 1 (text1 (ascii "x")) ∷ cell 0 1 1 1 [] ∷ cell 1 0 2 1 [] ∷ cell 2 0 1 1 [] ∷ cell 2 1 1 1 (text1 (ascii "y")) ∷ [];
    }

-- a cell over both columns between rows of two, the first of which has lines too
abbrev pub between : List (List ℕ) → List (List ℕ) → Table
between first lines =
    record {
      columns = col None 1 ∷ col None 1 ∷ [];
      sections = Body ∷ Body ∷ Body ∷ [];
      cells = cell 0 0 1 1 first ∷ cell 0 1 1 1 [] ∷ cell 1 0 2 1 lines ∷ cell 2 0 1 1 [] ∷ cell 2 1 1 1 [] ∷ [];
    }
