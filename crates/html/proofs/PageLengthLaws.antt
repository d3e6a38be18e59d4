-- How long a page is at most: `page-length`, by its columns, rows, cells and their inner bytes.
use Prim.Native.Nat.{ℕ, zero, suc, ◌+◌, ◌*◌, ◌/◌, ◌%◌, ◌≤◌, ◌<◌}
use mathlib.Core.Path.{◌≡◌, refl, ap}
use mathlib.Core.Bool.{Bool, true, false, cond}
use mathlib.Core.List.{List, [], ◌∷◌, ◌++◌, map, flat_map}
use native.Mathlib.Omega.{arith}
use lib.Dec.{eqb, ltb}
use lib.ListN.{length, get_or, length-append, length-map}
use borrow.Author.Tests.{eqb-true, ne_eqb}
use Rattle.seq.specs.Lists.{range, up_to, sum, cons_if, select}
use Rattle.seq.specs.Ascii.{ascii}
use Rattle.seq.specs.Decimal.{digits_onto, decimal}
use Rattle.grid.specs.Values.{GridTableColumn, TableCell, Table}
use Rattle.grid.specs.Flat.{join_text}
use Rattle.grid.specs.declared.TableAlignment.{TableAlignment}
use Rattle.grid.specs.declared.TableAlignment.TheVariants.{None, Left, Right, Center}
use Rattle.grid.specs.declared.GridTableSection.{GridTableSection}
use Rattle.grid.specs.declared.GridTableSection.TheVariants.{Head, Body, Foot}
use Rattle.html.specs.declared.Share.{Share}
use Rattle.html.specs.Shares.{fraction, share_text, shares}
use Rattle.html.specs.Page.{section_tag, opening, closing, new_line, col_tag, column_group, span_attribute, align_attribute, cell_tag, cell_page, when_edge, section_of, opens_section, closes_section, row_page, page}

record Short (a : List ℕ) (n : ℕ) : Type 0 where
  pub few : length a ≤ n

both : {a b : List ℕ} {m n : ℕ} → Short a m → Short b n → Short (a ++ b) (m + n)
both {a} {b} h k = record { few = omega (arith, h.few, k.few, length-append a b) }

exact : (a : List ℕ) → Short a (length a)
exact a = record { few = omega arith }

-- ---- parts of a tag
digits-few : (most n : ℕ) (digits : List ℕ) → length (digits_onto most n digits) ≤ most + length digits
unfolding digits_onto
digits-few zero n digits = omega arith
digits-few (suc most) n digits = go (ltb n 10) (digits-few most (n / 10) ((48 + n % 10) ∷ digits)) where
  go : (last : Bool) → length (digits_onto most (n / 10) ((48 + n % 10) ∷ digits)) ≤ most + suc (length digits)
      → length (cond last ((48 + n % 10) ∷ digits) (digits_onto most (n / 10) ((48 + n % 10) ∷ digits))) ≤ suc most + length digits
  go true h = omega arith
  go false h = omega arith

decimal-few : (n : ℕ) → Short (decimal n) 20
decimal-few n = record { few = digits-few 20 n [] }

fraction-few : (n : ℕ) → Short (fraction n) 3
unfolding fraction
fraction-few n = go (eqb n 0) (eqb (n % 10) 0) where
  go : (none last : Bool) → Short (cond none [] (0x2e ∷ (48 + n / 10) ∷ cond last [] ((48 + n % 10) ∷ []))) 3
  go true last = record { few = omega arith }
  go false true = record { few = omega arith }
  go false false = record { few = omega arith }

col-few : (s : Share) → Short (col_tag s) 47
unfolding share_text ascii
col-few s =
    let text = both (decimal-few (s.hundredths / 100)) (fraction-few (s.hundredths % 100)) in
    both (both (both (exact (ascii "<col style=\"width:")) text) (exact (ascii "%\" />"))) (exact new_line)

span-few : (name : List ℕ) (n : ℕ) → Short name 7 → Short (span_attribute name n) 31
unfolding ascii
span-few name n h = go (ltb 1 n) where
  go : (wide : Bool) → Short (cond wide (ascii " " ++ name ++ ascii "=\"" ++ decimal n ++ ascii "\"") []) 31
  go true = both (both (both (both (exact (ascii " ")) h) (exact (ascii "=\""))) (decimal-few n)) (exact (ascii "\""))
  go false = record { few = omega arith }

align-few : (a : TableAlignment) → Short (align_attribute a) 15
unfolding ascii
align-few None = record { few = omega arith }
align-few Left = record { few = omega arith }
align-few Right = record { few = omega arith }
align-few Center = record { few = omega arith }

tag-few : (s : GridTableSection) → Short (cell_tag s) 2
unfolding ascii
tag-few Head = record { few = omega arith }
tag-few Body = record { few = omega arith }
tag-few Foot = record { few = omega arith }

section-few : (s : GridTableSection) → Short (section_tag s) 5
unfolding ascii
section-few Head = record { few = omega arith }
section-few Body = record { few = omega arith }
section-few Foot = record { few = omega arith }

edge_few : (b : Bool) (tag : List ℕ) {n : ℕ} → Short tag n → Short (when_edge b tag) n
edge_few true tag h = h
edge_few false tag h = record { few = omega arith }

-- ---- cells
-- the inner bytes of a cell
abbrev pub inner_size : TableCell → ℕ
inner_size c = length (join_text c.lines)

cell-few : (columns : List GridTableColumn) (s : GridTableSection) (c : TableCell) → length (cell_page columns s c) ≤ 87 + inner_size c
unfolding cell_page ascii
cell-few columns s c =
    let open-tag = both (both (exact new_line) (exact (ascii "<"))) (tag-few s) in
    let spans = both (both open-tag (span-few (ascii "colspan") c.colspan (exact (ascii "colspan")))) (span-few (ascii "rowspan") c.rowspan (exact (ascii "rowspan"))) in
    let tagged = both (both spans (align-few (get_or columns c.column (record { alignment = None; width = 0 })).alignment)) (exact (ascii ">")) in
    let close-tag = both (both (exact (ascii "</")) (tag-few s)) (exact (ascii ">")) in
    let whole : Short (cell_page columns s c) (82 + inner_size c + 5) = both (both tagged (exact (join_text c.lines))) close-tag in
    omega (arith, whole.few)

-- ---- a row: its cells, and 28 bytes around them
module _ (columns : List GridTableColumn) (s : GridTableSection) where
  cells-few : (cs : List TableCell) → length (flat_map (cell_page columns s) cs) ≤ 87 * length cs + sum (map inner_size cs)
  unfolding flat_map sum
  cells-few [] = omega arith
  cells-few (c ∷ cs) = omega (arith, cells-few cs, cell-few columns s c, length-append (cell_page columns s c) (flat_map (cell_page columns s) cs))

abbrev starts_in : ℕ → TableCell → Bool
starts_in r c = eqb c.row r

-- what the cells of some take
abbrev taken : List TableCell → ℕ
taken cs = 87 * length cs + sum (map inner_size cs)

row-few : (t : Table) (r : ℕ) → length (row_page t r) ≤ 28 + taken (select (starts_in r) t.cells)
unfolding row_page ascii
row-few t r =
    let s = section_of t r in
    let cs = select (starts_in r) t.cells in
    let body = flat_map (cell_page t.columns s) cs in
    let tag = both (both (both (exact (ascii "<")) (section-few s)) (exact (ascii ">"))) (exact new_line) in
    let open_row = both (edge_few (opens_section t r) (opening (section_tag s) ++ new_line) tag) (exact (ascii "<tr>")) in
    let end-tag = both (exact new_line) (both (both (exact (ascii "</")) (section-few s)) (exact (ascii ">"))) in
    let whole : Short (row_page t r) (12 + length body + 1 + 5 + 9 + 1) =
    both (both (both (both (both open_row (exact body)) (exact new_line)) (exact (ascii "</tr>"))) (edge_few (closes_section t r) (new_line ++ closing (section_tag s)) end-tag)) (exact new_line) in
    omega (arith, whole.few, cells-few t.columns s cs)

-- what the cells take that start in n rows from a row on: no cell starts in two of them
unfoldable rows_taken : List TableCell → ℕ → ℕ → ℕ
rows_taken cs from zero = 0
rows_taken cs from (suc n) = taken (select (starts_in from) cs) + rows_taken cs (from + 1) n

module _ (c : TableCell) (cs : List TableCell) where
  started-before : (from n : ℕ) → c.row < from → rows_taken (c ∷ cs) from n ≡ rows_taken cs from n
  unfolding rows_taken select
  started-before from zero h = refl
  started-before from (suc n) h =
      rw (ne_eqb c.row from (λ e. omega arith)) (ap (λ (m : ℕ). taken (select (starts_in from) cs) + m) (started-before (from + 1) n (omega arith)))

  started-once : (from n : ℕ) → rows_taken (c ∷ cs) from n ≤ 87 + inner_size c + rows_taken cs from n
  unfolding rows_taken select sum
  started-once from zero = omega arith
  started-once from (suc n) = go (eqb c.row from) refl (started-once (from + 1) n) where
    go : (here : Bool) → eqb c.row from ≡ here → rows_taken (c ∷ cs) (from + 1) n ≤ 87 + inner_size c + rows_taken cs (from + 1) n
        → taken (cons_if here c (select (starts_in from) cs)) + rows_taken (c ∷ cs) (from + 1) n ≤ 87 + inner_size c + (taken (select (starts_in from) cs) + rows_taken cs (from + 1) n)
    go true e h = omega (arith, started-before (from + 1) n (omega (arith, eqb-true c.row from e)))
    go false e h = omega arith

rows_taken_lem : (cs : List TableCell) (from n : ℕ) → rows_taken cs from n ≤ taken cs
unfolding rows_taken select sum
rows_taken_lem [] from zero = omega arith
rows_taken_lem [] from (suc n) = omega (arith, rows_taken_lem [] (from + 1) n)
rows_taken_lem (c ∷ cs) from n = omega (arith, started-once c cs from n, rows_taken_lem cs from n)

rows_few : (t : Table) (from n : ℕ) → length (flat_map (row_page t) (range from n)) ≤ 28 * n + rows_taken t.cells from n
unfolding flat_map range rows_taken
rows_few t from zero = omega arith
rows_few t from (suc n) =
    omega (arith, row-few t from, rows_few t (from + 1) n, length-append (row_page t from) (flat_map (row_page t) (range (from + 1) n)))

-- ---- the columns
length-shares : (columns : List GridTableColumn) → length (shares columns) ≡ length columns
unfolding shares
length-shares columns = length-map columns _

cols-few : (ss : List Share) → length (flat_map col_tag ss) ≤ 47 * length ss
unfolding flat_map
cols-few [] = omega arith
cols-few (s ∷ ss) = omega (arith, cols-few ss, (col-few s).few, length-append (col_tag s) (flat_map col_tag ss))

group-few : (widths : Bool) (columns : List GridTableColumn) → Short (column_group widths columns) (23 + 47 * length columns)
unfolding column_group ascii
group-few false columns = record { few = omega arith }
group-few true columns =
    let tags = flat_map col_tag (shares columns) in
    let whole : Short (column_group true columns) (11 + length tags + 11 + 1) =
    both (both (both (both (exact (ascii "<colgroup>")) (exact new_line)) (exact tags)) (exact (ascii "</colgroup>"))) (exact new_line) in
    record { few = omega (arith, whole.few, cols-few (shares columns), length-shares columns) }

pub page-length : (widths : Bool) (t : Table)
    → length (page widths t) ≤ 40 + 47 * length t.columns + 28 * length t.sections + 87 * length t.cells + sum (map inner_size t.cells)
unfolding page ascii
page-length widths t =
    let rows = flat_map (row_page t) (up_to (length t.sections)) in
    let whole : Short (page widths t) (8 + (23 + 47 * length t.columns) + length rows + 8 + 1) =
    both (both (both (both (both (exact (ascii "<table>")) (exact new_line)) (group-few widths t.columns)) (exact rows)) (exact (ascii "</table>"))) (exact new_line) in
    omega (arith, whole.few, rows_few t 0 (length t.sections), rows_taken_lem t.cells 0 (length t.sections))
