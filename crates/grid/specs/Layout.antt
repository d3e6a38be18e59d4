-- Document 01, "Table": what the traced rectangles make.
use Rattle.std.specs.Prelude.{ℕ, ◌+◌, ◌-◌, Bool, true, false, ◌||◌, cond, List, [], ◌∷◌, map, get_or, drop, eqb, leb, ltb}
use Rattle.std.proofs.Math.Option.{Option, none, some}
use Rattle.seq.specs.Lists.{range, up_to, any, select, count, last_or, some_if, or_default, sum}
use Rattle.text.specs.Characters.{colon}
use Rattle.text.specs.Rule.{to_plus}
use Rattle.grid.specs.Values.{Line, Rect, GridTableColumn, Row, Range, Cell, Layout}
use Rattle.grid.specs.Slots.{Grid, byte_at, trimmed_at}
use Rattle.grid.specs.Rectangle.{plus_at}
use Rattle.grid.specs.declared.TableAlignment.{TableAlignment}
use Rattle.grid.specs.declared.TableAlignment.TheVariants.{None, Left, Right, Center}
use Rattle.grid.specs.declared.GridTableSection.{GridTableSection}
use Rattle.grid.specs.declared.GridTableSection.TheVariants.{Head, Body, Foot}

-- "Column and row lines are the sorted edges of the rectangles."
unfoldable pub column_lines : Grid → List Rect → List ℕ
column_lines g rs = select (λ x. any (λ r. eqb x r.left || eqb x r.right) rs) (up_to g.width)

unfoldable pub row_lines : Grid → List Rect → List ℕ
row_lines g rs = select (λ y. any (λ r. eqb y r.top || eqb y r.bottom) rs) (up_to g.height)

-- the number of a column that starts at column line x, and of a row that starts at row line x
unfoldable pub index_of : List ℕ → ℕ → ℕ
index_of lines x = count (λ line. ltb line x) lines

-- two neighbouring lines
pub record Between : Type 0 where
  pub from : ℕ
  pub to : ℕ

unfoldable pub between : List ℕ → List Between
between [] = []
between (a ∷ []) = []
between (a ∷ b ∷ rest) = record { from = a; to = b } ∷ between (b ∷ rest)

abbrev pub first_of : List ℕ → Option ℕ
first_of [] = none
first_of (a ∷ rest) = some a

-- "The alignment line is the first separator, else line 0"
abbrev pub alignment_line : Grid → ℕ
alignment_line g = or_default 0 (first_of g.separators)

-- "`:` left, right or both"
abbrev pub alignment_of : Bool → Bool → TableAlignment
alignment_of true false = Left
alignment_of false true = Right
alignment_of true true = Center
alignment_of false false = None

-- the segment of the alignment line that follows column line x
abbrev pub segment_from : List Line → Grid → ℕ → List ℕ
segment_from lines g x = to_plus (drop (byte_at g (alignment_line g) x + 1) (trimmed_at lines (alignment_line g)))

abbrev pub segment_alignment : List ℕ → TableAlignment
segment_alignment segment = alignment_of (eqb (get_or segment 0 0) colon) (eqb (last_or segment 0) colon)

-- "each segment whose left `+` is a column line aligns that column .. Other columns have none."
unfoldable pub alignment_at : List Line → Grid → ℕ → TableAlignment
alignment_at lines g x = cond (plus_at g (alignment_line g) x) (segment_alignment (segment_from lines g x)) None

-- "A width is the distance less 1."
unfoldable pub columns_read : List Line → Grid → List Rect → List GridTableColumn
columns_read lines g rs =
    map (λ b. record { alignment = alignment_at lines g b.from; width = b.to - b.from - 1 }) (between (column_lines g rs))

-- "Rows above the first separator are Head."
abbrev pub head_end : Grid → Option ℕ
head_end g = first_of g.separators

-- "If there are two or more separators and the last is the last line, rows from the last but one are Foot."
unfoldable pub last_but_one : ℕ → List ℕ → Option ℕ
last_but_one last_line [] = none
last_but_one last_line (a ∷ []) = none
last_but_one last_line (a ∷ b ∷ []) = some_if (eqb b last_line) a
last_but_one last_line (a ∷ b ∷ c ∷ rest) = last_but_one last_line (b ∷ c ∷ rest)

abbrev pub foot_start : Grid → Option ℕ
foot_start g = last_but_one (g.height - 1) g.separators

abbrev pub is_above : ℕ → Option ℕ → Bool
is_above y none = false
is_above y (some line) = ltb y line

abbrev pub is_from : ℕ → Option ℕ → Bool
is_from y none = false
is_from y (some line) = leb line y

-- "The rest is Body."
unfoldable pub section_at : Grid → ℕ → GridTableSection
section_at g top = cond (is_above top (head_end g)) Head (cond (is_from top (foot_start g)) Foot Body)

unfoldable pub rows_read : Grid → List Rect → List Row
rows_read g rs = map (λ b. record { section = section_at g b.from; top = b.from; bottom = b.to }) (between (row_lines g rs))

-- what lies between the borders on inner line y, as bytes of that line
abbrev pub content_at : Grid → Rect → ℕ → Range
content_at g r y = record { start = byte_at g y r.left + 1; end = byte_at g y r.right }

-- "each line strictly inside a cell"
abbrev pub inner_lines : Rect → List ℕ
inner_lines r = range (r.top + 1) (r.bottom - r.top - 1)

-- how many lines stand inside all cells together
abbrev pub inner_count : List Rect → ℕ
inner_count rs = sum (map (λ (q : Rect). q.bottom - q.top - 1) rs)

unfoldable pub cell_read : Grid → List Rect → Rect → Cell
cell_read g rs r =
    record {
      row = index_of (row_lines g rs) r.top;
      column = index_of (column_lines g rs) r.left;
      colspan = index_of (column_lines g rs) r.right - index_of (column_lines g rs) r.left;
      rowspan = index_of (row_lines g rs) r.bottom - index_of (row_lines g rs) r.top;
      left = r.left;
      content = map (content_at g r) (inner_lines r);
    }

unfoldable pub layout_of : List Line → Grid → List Rect → Layout
layout_of lines g rs =
    record { columns = columns_read lines g rs; rows = rows_read g rs; cells = map (cell_read g rs) rs }
