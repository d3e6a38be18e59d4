-- The arrays that calls get and fill. Document 01: "A drawing has its sizes (lines, bytes), two parallel arrays (line lengths in
-- bytes, line columns) and its text, back to back without line ends. A table has sizes, columns (alignment, declared width), one
-- section a row, and cells in order of row, then column."
use Rattle.std.specs.Prelude.{ℕ, zero, suc, ◌*◌, Bool, not, ◌&&◌, cond, length, get_or, take, drop, eqb, ltb}
use mathlib.Core.List.{List, [], ◌∷◌, map, flat_map}
use Rattle.seq.specs.Lists.{sum, all}
use Rattle.grid.specs.Values.{Line, GridTableColumn, TableCell, Table}
use Rattle.grid.specs.declared.TableAlignment.{TableAlignment}
use Rattle.grid.specs.declared.TableAlignment.TheVariants.{None, Left, Right, Center}
use Rattle.grid.specs.declared.GridTableSection.{GridTableSection}
use Rattle.grid.specs.declared.GridTableSection.TheVariants.{Head, Body, Foot}

-- 12: "output space is shorter than the result"
abbrev pub shorter : List ℕ → List ℕ → Bool
shorter buffer result = ltb (length buffer) (length result)

-- Drawings

pub record FlatDrawing : Type 0 where
  pub lines : ℕ
  pub bytes : ℕ
  pub lengths : List ℕ
  pub columns : List ℕ
  pub text : List ℕ

-- 13: "array lengths contradict the sizes"
unfoldable pub drawing_contradicts : FlatDrawing → Bool
drawing_contradicts d =
    not (eqb (length d.lengths) d.lines && eqb (length d.columns) d.lines && eqb (length d.text) d.bytes
    && eqb (sum d.lengths) d.bytes)

-- the lines of these lengths, back to back in a text
unfoldable pub split_text : List ℕ → List ℕ → List (List ℕ)
split_text [] text = []
split_text (n ∷ ns) text = take n text ∷ split_text ns (drop n text)

unfoldable pub lines_with : List (List ℕ) → List ℕ → List Line
lines_with [] columns = []
lines_with (t ∷ ts) columns = record { text = t; column = get_or columns 0 0 } ∷ lines_with ts (drop 1 columns)

abbrev pub lines_from : List ℕ → List ℕ → List ℕ → List Line
lines_from lengths columns text = lines_with (split_text lengths text) columns

unfoldable pub lines_of : FlatDrawing → List Line
lines_of d = lines_from d.lengths d.columns d.text

abbrev pub join_text : List (List ℕ) → List ℕ
join_text lines = flat_map (λ line. line) lines

unfoldable pub flat_drawing : List Line → FlatDrawing
flat_drawing lines =
    record {
      lines = length lines;
      bytes = sum (map (λ (line : Line). length line.text) lines);
      lengths = map (λ (line : Line). length line.text) lines;
      columns = map (λ (line : Line). line.column) lines;
      text = join_text (map (λ (line : Line). line.text) lines);
    }

-- Tables

-- the numbers that stand for an alignment and a section in an array
abbrev pub alignment_code : TableAlignment → ℕ
alignment_code None = 0
alignment_code Left = 1
alignment_code Right = 2
alignment_code Center = 3

abbrev pub code_alignment : ℕ → TableAlignment
code_alignment code = cond (eqb code 1) Left (cond (eqb code 2) Right (cond (eqb code 3) Center None))

abbrev pub section_code : GridTableSection → ℕ
section_code Head = 0
section_code Body = 1
section_code Foot = 2

abbrev pub code_section : ℕ → GridTableSection
code_section code = cond (eqb code 0) Head (cond (eqb code 2) Foot Body)

pub record TableSizes : Type 0 where
  pub columns : ℕ
  pub rows : ℕ
  pub cells : ℕ
  pub lines : ℕ
  pub bytes : ℕ

-- each column's alignment and width, each row's section, each cell's row, column, colspan, rowspan and number of lines, the lengths of
-- all cells' lines, and their text back to back
pub record TableArrays : Type 0 where
  pub columns : List ℕ
  pub sections : List ℕ
  pub cells : List ℕ
  pub lengths : List ℕ
  pub text : List ℕ

unfoldable pub columns_of_array : ℕ → List ℕ → List GridTableColumn
columns_of_array zero array = []
columns_of_array (suc n) array = record { alignment = code_alignment (get_or array 0 0); width = get_or array 1 0 } ∷ columns_of_array n (drop 2 array)

-- each cell takes its number of lines from those that are left
unfoldable pub cells_of_array : ℕ → List ℕ → List (List ℕ) → List TableCell
cells_of_array zero array lines = []
cells_of_array (suc n) array lines =
    record {
      row = get_or array 0 0;
      column = get_or array 1 0;
      colspan = get_or array 2 0;
      rowspan = get_or array 3 0;
      lines = take (get_or array 4 0) lines;
    } ∷ cells_of_array n (drop 5 array) (drop (get_or array 4 0) lines)

-- every nth number of an array, `count` of them
unfoldable pub every_nth : ℕ → ℕ → List ℕ → List ℕ
every_nth n zero array = []
every_nth n (suc count) array = get_or array 0 0 ∷ every_nth n count (drop n array)

abbrev pub alignment_codes : TableSizes → TableArrays → List ℕ
alignment_codes s t = every_nth 2 s.columns t.columns

abbrev pub line_counts : TableSizes → TableArrays → List ℕ
line_counts s t = every_nth 5 s.cells (drop 4 t.cells)

abbrev pub length_is : List ℕ → ℕ → Bool
length_is array n = eqb (length array) n

-- 13: each array has exactly its size, the numbers of lines add up to the lines and the line lengths to the bytes, and each number
-- that stands for an alignment or a section is one
unfoldable pub table_contradicts : TableSizes → TableArrays → Bool
table_contradicts s t =
    not (length_is t.columns (2 * s.columns) && length_is t.sections s.rows && length_is t.cells (5 * s.cells)
    && length_is t.lengths s.lines && length_is t.text s.bytes && eqb (sum (line_counts s t)) s.lines
    && eqb (sum t.lengths) s.bytes && all (λ code. ltb code 4) (alignment_codes s t) && all (λ code. ltb code 3) t.sections)

unfoldable pub table_of_arrays : TableSizes → TableArrays → Table
table_of_arrays s t =
    record {
      columns = columns_of_array s.columns t.columns;
      sections = map code_section t.sections;
      cells = cells_of_array s.cells t.cells (split_text t.lengths t.text);
    }

-- all cells' lines, in order
abbrev pub table_lines : Table → List (List ℕ)
table_lines t = flat_map (λ (c : TableCell). c.lines) t.cells

unfoldable pub table_sizes : Table → TableSizes
table_sizes t =
    record {
      columns = length t.columns;
      rows = length t.sections;
      cells = length t.cells;
      lines = length (table_lines t);
      bytes = length (join_text (table_lines t));
    }

abbrev pub column_numbers : GridTableColumn → List ℕ
column_numbers c = alignment_code c.alignment ∷ c.width ∷ []

abbrev pub table_cell_numbers : TableCell → List ℕ
table_cell_numbers c = c.row ∷ c.column ∷ c.colspan ∷ c.rowspan ∷ length c.lines ∷ []

unfoldable pub table_arrays : Table → TableArrays
table_arrays t =
    record {
      columns = flat_map column_numbers t.columns;
      sections = map section_code t.sections;
      cells = flat_map table_cell_numbers t.cells;
      lengths = map length (table_lines t);
      text = join_text (table_lines t);
    }
