-- The calls from a drawing to its table: the whole table, and the cut lines of one cell.
use Rattle.std.specs.Prelude.{ℕ, Bool, ◌||◌, length, get_or, leb, ltb}
use mathlib.Core.List.{List, [], ◌∷◌, map, flat_map}
use Rattle.grid.specs.Answer.{Answer, accept, refuse_if, and_then, afterwards, over}
use Rattle.grid.specs.Limits.{max_lines, max_cells}
use Rattle.grid.specs.Values.{Line, Cell, Layout, Table}
use Rattle.grid.specs.Cut.{cell_fragments}
use Rattle.grid.specs.Read.{read_layout, read_table}
use Rattle.grid.specs.Flat.{FlatDrawing, drawing_contradicts, lines_of, TableSizes, TableArrays, table_sizes, table_arrays, shorter}
use Rattle.grid.specs.LayoutCall.{LayoutSpace, space_short}
use Rattle.grid.specs.CutCall.{CutNumbers, cut_numbers}

-- working space beside the layout's: where each line's text starts, and the number of lines of each cell
pub record TableSpace : Type 0 where
  pub starts : ℕ
  pub counts : ℕ

abbrev pub table_spaces : List ℕ → List ℕ → TableSpace
table_spaces starts counts = record { starts = length starts; counts = length counts }

unfoldable pub starts_short : ℕ → Bool
starts_short starts = ltb starts max_lines

unfoldable pub table_space_short : TableSpace → Bool
table_space_short s = starts_short s.starts || ltb s.counts max_cells

unfoldable pub table_short : TableArrays → TableArrays → Bool
table_short out t =
    shorter out.columns t.columns || shorter out.sections t.sections || shorter out.cells t.cells
    || shorter out.lengths t.lengths || shorter out.text t.text

unfoldable pub table_over : TableArrays → TableArrays → TableArrays
table_over t out =
    record {
      columns = over t.columns out.columns;
      sections = over t.sections out.sections;
      cells = over t.cells out.cells;
      lengths = over t.lengths out.lengths;
      text = over t.text out.text;
    }

-- 13, of the calls that read a layout first
abbrev pub read_contradicts : LayoutSpace → Bool → FlatDrawing → Bool
read_contradicts w short d = drawing_contradicts d || space_short w || short

unfoldable pub table_accepts : LayoutSpace → TableSpace → FlatDrawing → TableArrays → Answer Table
table_accepts w s d out =
    refuse_if (read_contradicts w (table_space_short s) d) 13
    (and_then (read_table (lines_of d)) (λ t. refuse_if (table_short out (table_arrays t)) 12 (accept t)))

unfoldable pub table_answer : LayoutSpace → TableSpace → FlatDrawing → TableArrays → Answer TableSizes
table_answer w s d out = and_then (table_accepts w s d out) (λ t. accept (table_sizes t))

unfoldable pub table_afterwards : LayoutSpace → TableSpace → FlatDrawing → TableArrays → TableArrays
table_afterwards w s d out = afterwards (table_accepts w s d out) (λ t. table_over (table_arrays t) out) out

abbrev pub no_cell : Cell
no_cell = record { row = 0; column = 0; colspan = 0; rowspan = 0; left = 0; content = [] }

-- the cut lines of a cell in numbers: for each inner line, blank ones too, its index, where its text starts and ends in it, and its column
unfoldable pub cell_cuts : List Line → Layout → ℕ → List CutNumbers
cell_cuts lines l k = map (cut_numbers 0) (cell_fragments lines l (get_or l.cells k no_cell))

abbrev pub four_of : CutNumbers → List ℕ
four_of f = f.line ∷ f.start ∷ f.end ∷ f.column ∷ []

abbrev pub cut_array : List CutNumbers → List ℕ
cut_array cuts = flat_map four_of cuts

-- 13 also where "a cell number asked for is past the end": known once the drawing is read, and so checked before 12
unfoldable pub cell_accepts : LayoutSpace → ℕ → FlatDrawing → ℕ → List ℕ → Answer (List CutNumbers)
cell_accepts w starts d k out =
    refuse_if (read_contradicts w (starts_short starts) d) 13
    (and_then (read_layout (lines_of d)) (λ (l : Layout). refuse_if (leb (length l.cells) k) 13
    (refuse_if (shorter out (cut_array (cell_cuts (lines_of d) l k))) 12 (accept (cell_cuts (lines_of d) l k)))))

-- how many cut lines the cell has
unfoldable pub cell_answer : LayoutSpace → ℕ → FlatDrawing → ℕ → List ℕ → Answer ℕ
cell_answer w starts d k out = and_then (cell_accepts w starts d k out) (λ cuts. accept (length cuts))

unfoldable pub cell_afterwards : LayoutSpace → ℕ → FlatDrawing → ℕ → List ℕ → List ℕ
cell_afterwards w starts d k out = afterwards (cell_accepts w starts d k out) (λ cuts. over (cut_array cuts) out) out
