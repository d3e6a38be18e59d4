-- Laws of the squares that cells hold, and of their order.
use Prim.Native.Nat.{ℕ, ◌+◌, ◌≤◌, ◌<◌}
use mathlib.Core.Path.{◌≡◌, ◌∙◌}
use mathlib.Core.Bool.{Bool, true, false, ◌&&◌}
use mathlib.Core.Logic.{⊎_elim}
use mathlib.Core.List.{List, [], ◌∷◌, map, Memᴰ}
use native.Mathlib.Omega.{arith}
use lib.Dec.{eqb, leb, ltb}
use lib.ListN.{length, length-map}
use borrow.Author.Tests.{eqb-true, eq-eqb, le-leb, lt-leb, lt-ltb, le-ltb}
use Rattle.seq.specs.Lists.{up_to, all, count, neighbours}
use Rattle.seq.proofs.Tests.{and-false, le-or-lt, lex-cases, bit, and-true}
use Rattle.seq.proofs.Searches.{all-range, range_all}
use Rattle.seq.proofs.Sorted.{sorted_head}
use Rattle.grid.specs.Values.{TableCell}
use Rattle.grid.specs.Flat.{code_section, columns_of_array}
use Rattle.drawing.specs.GridRules.{comes_before, holds_square, cover_once}
use Rattle.drawing.proofs.CellPlaces.{comes_before-strict}
use Rattle.representation.proofs.TableInLaws.{columns-length}
use Rattle.table_checks.specs.Places.{places_of, grid_in}

-- how many of the cells hold a square
abbrev pub held : ℕ → ℕ → List TableCell → ℕ
held y x cells = count (holds_square y x) cells

-- rows up to row, and those from there up to bottom
pub rows_join : (y row bottom : ℕ) → row ≤ bottom → bit (ltb y row) + bit (leb row y && ltb y bottom) ≡ bit (ltb y bottom)
rows_join y row bottom h =
    ⊎_elim (λ (u : row ≤ y). rw (le-leb row y u, le-ltb y row u) (omega arith))
    (λ (u : y < row). rw (lt-leb row y u, lt-ltb y row u, lt-ltb y bottom (omega arith))) (le-or-lt row y)

-- ---- the squares of a cell
module _ (c : TableCell) (y x : ℕ) where
  pub holds-column : c.column ≤ x → x < c.column + c.colspan → holds_square y x c ≡ leb c.row y && ltb y (c.row + c.rowspan)
  holds-column low high =
      let rows = leb c.row y && ltb y (c.row + c.rowspan) in
      rw (le-leb c.column x low, lt-ltb x (c.column + c.colspan) high) (and-true (rows && true) ∙ and-true rows)

  pub not_left : x < c.column → holds_square y x c ≡ false
  not_left h = rw (lt-leb c.column x h, and-false (leb c.row y && ltb y (c.row + c.rowspan)))

  pub not_right : c.column + c.colspan ≤ x → holds_square y x c ≡ false
  not_right h = rw (le-ltb x (c.column + c.colspan) h, and-false (leb c.row y && ltb y (c.row + c.rowspan) && leb c.column x))

  pub not-above : y < c.row → holds_square y x c ≡ false
  not-above h = rw (lt-leb c.row y h)

-- ---- the order of cells
-- later cells start no higher
pub later_rows : (c : TableCell) (l : List TableCell) → neighbours comes_before (c ∷ l) ≡ true → {d : TableCell} → Memᴰ d l → c.row ≤ d.row
later_rows c l e {d} m =
    let before = sorted_head comes_before comes_before-strict c l e m in
    ⊎_elim (λ h. omega arith) (λ h. omega arith) (lex-cases c.row d.row c.column d.column before)

-- ---- every square once, as a fact
module _ (columns n : ℕ) (sections cells : List ℕ) where
  abbrev once : ℕ → ℕ → Bool
  once y x = eqb (held y x (places_of n cells)) 1

  abbrev width : ℕ
  width = length (columns_of_array columns [])

  abbrev height : ℕ
  height = length (map code_section sections)

  pub cover-squares : cover_once (grid_in columns n sections cells) ≡ true
      → (y x : ℕ) → y < length sections → x < columns → held y x (places_of n cells) ≡ 1
  unfolding cover_once
  cover-squares e y x u w =
      let row = all-range (λ y. all (once y) (up_to width)) 0 height e y (omega arith) (omega (arith, length-map sections code_section)) in
      eqb-true (held y x (places_of n cells)) 1 (all-range (once y) 0 width row x (omega arith) (omega (arith, columns-length columns [])))

  pub squares-cover : ((y x : ℕ) → y < length sections → x < columns → held y x (places_of n cells) ≡ 1)
      → cover_once (grid_in columns n sections cells) ≡ true
  unfolding cover_once
  squares-cover h =
      range_all (λ y. all (once y) (up_to width)) 0 height (λ y low u.
      range_all (once y) 0 width (λ x left w.
      eq-eqb (held y x (places_of n cells)) 1 (h y x (omega (arith, length-map sections code_section)) (omega (arith, columns-length columns [])))))
