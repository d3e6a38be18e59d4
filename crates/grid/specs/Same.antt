-- Document 01: "Two tables are the same when the number of columns, alignments, sections, cells with their spans, and each cell's
-- trimmed lines without empty last ones agree."
use Rattle.std.specs.Prelude.{◌≡◌, List, map, length, ℕ}
use Rattle.text.specs.Trim.{trim_end}
use Rattle.grid.specs.Values.{GridTableColumn, TableCell, Table}
use Rattle.grid.specs.Cut.{drop_empty_last}
use Rattle.grid.specs.declared.TableAlignment.{TableAlignment}

-- a cell's lines as they are drawn
unfoldable pub drawn_lines : List (List ℕ) → List (List ℕ)
drawn_lines lines = drop_empty_last (map trim_end lines)

unfoldable pub normal_cell : TableCell → TableCell
normal_cell c =
    record { row = c.row; column = c.column; colspan = c.colspan; rowspan = c.rowspan; lines = drawn_lines c.lines }

-- what sameness looks at: declared widths are no part of it
unfoldable pub normal : Table → Table
normal t =
    record {
      columns = map (λ (c : GridTableColumn). record { alignment = c.alignment; width = 0 }) t.columns;
      sections = t.sections;
      cells = map normal_cell t.cells;
    }

abbrev pub Same : Table → Table → Type 0
Same t u = normal t ≡ normal u

abbrev pub alignments_of : Table → List TableAlignment
alignments_of t = map (λ (c : GridTableColumn). c.alignment) t.columns

-- a part of each cell, in order
abbrev pub each_cell : {A : Type 0} → (TableCell → A) → Table → List A
each_cell part t = map part t.cells

-- The same sentence, part by part: `same_parts` of proofs/SameLaws.antt says that sameness is this and the cells' places.
pub record SameLook (t u : Table) : Type 0 where
  pub columns : length t.columns ≡ length u.columns
  pub alignments : alignments_of t ≡ alignments_of u
  pub sections : t.sections ≡ u.sections
  pub colspans : each_cell (λ c. c.colspan) t ≡ each_cell (λ c. c.colspan) u
  pub rowspans : each_cell (λ c. c.rowspan) t ≡ each_cell (λ c. c.rowspan) u
  pub lines : each_cell (λ c. drawn_lines c.lines) t ≡ each_cell (λ c. drawn_lines c.lines) u

-- where each cell stands
pub record SamePlaces (t u : Table) : Type 0 where
  pub rows : each_cell (λ c. c.row) t ≡ each_cell (λ c. c.row) u
  pub columns : each_cell (λ c. c.column) t ≡ each_cell (λ c. c.column) u

pub record SameParts (t u : Table) : Type 0 where
  pub look : SameLook t u
  pub places : SamePlaces t u
