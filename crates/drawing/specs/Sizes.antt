-- Document 01, "Drawing": the widths and heights.
use Rattle.std.specs.Prelude.{unwrap_or}
use Rattle.std.specs.Prelude.{ℕ, ◌+◌, ◌-◌, max, cond, List, [], ◌∷◌, map, length, get_or, take, drop, set, eqb}
use Rattle.seq.specs.Lists.{sum, largest}
use Rattle.text.specs.Characters.{tab, width_of}
use Rattle.text.specs.Utf8.{CharIndex, char_indices}
use Rattle.grid.specs.Values.{GridTableColumn, TableCell, Table}
use Rattle.grid.specs.Same.{drawn_lines}
use Rattle.grid.specs.declared.TableAlignment.{TableAlignment}
use Rattle.grid.specs.declared.TableAlignment.TheVariants.{None, Left, Right, Center}

-- "(a tab counted as 4)"
abbrev pub measure : CharIndex → ℕ
measure c = cond (eqb c.value tab) 4 (unwrap_or (width_of c.value) 0)

unfoldable pub widest : List (List ℕ) → ℕ
widest lines = largest (map (λ line. sum (map measure (char_indices line))) lines)

-- what a cell asks of the columns, or rows, from `from` up to `to`, inner borders counted
pub record Need : Type 0 where
  pub from : ℕ
  pub to : ℕ
  pub size : ℕ

-- "Cells one column wide raise their column .., cells one row high their row"
abbrev pub raise_single : List ℕ → Need → List ℕ
raise_single sizes n = cond (eqb n.to (n.from + 1)) (set sizes n.from (max (get_or sizes n.from 0) n.size)) sizes

abbrev pub have : List ℕ → Need → ℕ
have sizes n = sum (take (n.to - n.from) (drop n.from sizes)) + (n.to - n.from - 1)

-- "a cell that lacks width or height, inner borders counted, adds the lack to its last column or row"
abbrev pub add_lack : List ℕ → Need → List ℕ
add_lack sizes n = set sizes (n.to - 1) (get_or sizes (n.to - 1) 0 + (n.size - have sizes n))

-- one need after the other
unfoldable pub in_turn : (List ℕ → Need → List ℕ) → List ℕ → List Need → List ℕ
in_turn change sizes [] = sizes
in_turn change sizes (n ∷ ns) = in_turn change (change sizes n) ns

unfoldable pub fit : List ℕ → List Need → List ℕ
fit sizes needs = in_turn add_lack (in_turn raise_single sizes needs) needs

-- "at least 1, or 3 if aligned"
abbrev pub least_width : TableAlignment → ℕ
least_width None = 1
least_width Left = 3
least_width Right = 3
least_width Center = 3

abbrev pub start_width : GridTableColumn → ℕ
start_width c = max c.width (least_width c.alignment)

-- "widest + 1", of lines that are trimmed and without empty last ones
abbrev pub width_need : TableCell → Need
width_need c = record { from = c.column; to = c.column + c.colspan; size = widest (drawn_lines c.lines) + 1 }

abbrev pub height_need : TableCell → Need
height_need c = record { from = c.row; to = c.row + c.rowspan; size = length (drawn_lines c.lines) }

-- "Widths start at the declared value"
unfoldable pub widths : Table → List ℕ
widths t = fit (map start_width t.columns) (map width_need t.cells)

-- "heights at 1"
unfoldable pub heights : Table → List ℕ
heights t = fit (map (λ s. 1) t.sections) (map height_need t.cells)

-- where the borders stand: one before, between and after the sizes
unfoldable pub offsets_from : ℕ → List ℕ → List ℕ
offsets_from at [] = at ∷ []
offsets_from at (size ∷ sizes) = at ∷ offsets_from (at + size + 1) sizes

abbrev pub offsets : List ℕ → List ℕ
offsets sizes = offsets_from 0 sizes
