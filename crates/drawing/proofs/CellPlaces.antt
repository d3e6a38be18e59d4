-- Under the grid rules the places of a table's cells follow from the order and the spans: a cell stands on the first square, row by
-- row, that no cell before it holds. Cite `keeps-places`.
use Prim.Native.Nat.{ℕ, ◌+◌, ◌≤◌, ◌<◌}
use mathlib.Core.Path.{◌≡◌, refl, sym, ap}
use mathlib.Core.Bool.{true, ◌&&◌}
use mathlib.Core.Logic.{◌⊎◌, inl, inr, ⊎_elim}
use mathlib.Core.List.{List, [], ◌∷◌, map, Memᴰ}
use native.Mathlib.Omega.{arith}
use lib.Dec.{leb, ltb}
use lib.ListN.{length, get_or, drop}
use borrow.Author.Tests.{leb-true, lt-ltb, le-leb}
use Rattle.seq.specs.Lists.{all, count, neighbours}
use Rattle.seq.proofs.Tests.{and_left, and_right, and_intro, bool-refused, bit, le-or-lt, lex-above, lex-beside, lex-cases, lex-trans}
use Rattle.seq.proofs.Searches.{mem-all, count-cons, count-mem, count-pick}
use Rattle.seq.proofs.Sorted.{Strict, sorted_tail, sorted_head}
use Rattle.grid.specs.Values.{TableCell, Table}
use Rattle.grid.specs.Same.{each_cell, SamePlaces}
use Rattle.drawing.specs.GridRules.{comes_before, stays_inside, holds_square, keeps_rules}
use Rattle.drawing.proofs.KeptLaws.{Lies, lies-stays, stays-lies, keeps_rules-kept}

-- the order of cells is strict
pub comes_before-strict : Strict comes_before
comes_before-strict =
    record {
      irreflexive = λ a.
          bool-refused (comes_before a a) (λ e.
          ⊎_elim (λ (h : a.row < a.row). omega arith) (λ (h : (a.row ≡ a.row) × (a.column < a.column)). omega (arith, h.1))
          (lex-cases a.row a.row a.column a.column e));
      transitive = λ a b c. lex-trans a.row b.row c.row a.column b.column c.column;
    }

-- ---- one cell

-- a cell holds its own first square
holds-own : (c : TableCell) → 0 < c.rowspan → 0 < c.colspan → holds_square c.row c.column c ≡ true
holds-own c tall broad =
    and_intro
    (and_intro (and_intro (le-leb c.row c.row (omega arith)) (lt-ltb c.row (c.row + c.rowspan) (omega arith))) (le-leb c.column c.column (omega arith)))
    (lt-ltb c.column (c.column + c.colspan) (omega arith))

holds_after : (r k : ℕ) (c : TableCell) → holds_square r k c ≡ true → (c.row ≤ r) × (c.column ≤ k)
holds_after r k c e =
    let p = leb c.row r in
    let q = ltb r (c.row + c.rowspan) in
    let s = leb c.column k in
    let f = and_left (p && q && s) (ltb k (c.column + c.colspan)) e in
    (leb-true c.row r (and_left p q (and_left (p && q) s f)), leb-true c.column k (and_right (p && q) s f))

-- the same squares are held by cells of the same place and spans
holds_same : (c d : TableCell) → c.row ≡ d.row → c.column ≡ d.column → c.colspan ≡ d.colspan → c.rowspan ≡ d.rowspan
    → (r k : ℕ) → holds_square r k c ≡ holds_square r k d
holds_same c d row column colspan rowspan r k = λ i. leb (row i) r && ltb r (row i + rowspan i) && leb (column i) k && ltb k (column i + colspan i)

-- ---- the cells that are left

-- in order and inside the table's grid, they hold once each square that those before them leave
record Rest (t : Table) (before : ℕ → ℕ → ℕ) (cells : List TableCell) : Type 0 where
  ordered : neighbours comes_before cells ≡ true
  inside : all (stays_inside t) cells ≡ true
  once : (r k : ℕ) → r < length t.sections → k < length t.columns → before r k + count (holds_square r k) cells ≡ 1

-- all cells of a table that keeps the rules
rest_all : (t : Table) → keeps_rules t ≡ true → Rest t (λ r k. 0) t.cells
rest_all t e =
    let kept = keeps_rules-kept t e in
    record {
      ordered = kept.ordered;
      inside = mem-all (stays_inside t) t.cells (λ c m. lies-stays t c (kept.lies c m));
      once = λ r k low near. omega (arith, kept.square r k low near);
    }

-- without the first of them, of which one that holds the same squares may stand for it
rest-next : {t : Table} {before : ℕ → ℕ → ℕ} {d : TableCell} {ds : List TableCell} (c : TableCell) → ((r k : ℕ) → holds_square r k c ≡ holds_square r k d)
    → Rest t before (d ∷ ds) → Rest t (λ r k. before r k + bit (holds_square r k c)) ds
unfolding all
rest-next {t} {d = d} {ds} c same rest =
    record {
      ordered = sorted_tail comes_before d ds rest.ordered;
      inside = and_right (stays_inside t d) (all (stays_inside t) ds) rest.inside;
      once = λ r k low near. omega (arith, rest.once r k low near, count-cons (holds_square r k) d ds, ap bit (same r k));
    }

rest-head : {t : Table} {before : ℕ → ℕ → ℕ} {c : TableCell} {cs : List TableCell} → Rest t before (c ∷ cs) → Lies t c
unfolding all
rest-head {t} {c = c} {cs} rest = stays-lies t c (and_left (stays_inside t c) (all (stays_inside t) cs) rest.inside)

module _ {t u : Table} (rows : length t.sections ≡ length u.sections) (columns : length t.columns ≡ length u.columns) where
  -- where the same squares are left in two tables, the first cell left in one does not come before the first left in the other: the cell
  -- that holds its first square there would stand before the others
  rest-not-before : {before : ℕ → ℕ → ℕ} {c d : TableCell} {cs ds : List TableCell} → Rest t before (c ∷ cs) → Rest u before (d ∷ ds) → comes_before c d ≡ true → ⊥
  rest-not-before {before} {c} {d} {cs} {ds} mine other first =
      let s = rest-head mine in
      let low : c.row < length t.sections = omega (arith, s.tall, s.low) in
      let near : c.column < length t.columns = omega (arith, s.broad, s.near) in
      let own : 0 < count (holds_square c.row c.column) (c ∷ cs) =
      count-mem (holds_square c.row c.column) (Memᴰ.head refl) (holds-own c s.tall s.broad) in
      let found = count-pick (holds_square c.row c.column) (d ∷ ds)
      (omega (arith, own, mine.once c.row c.column low near, other.once c.row c.column (omega arith) (omega arith))) in
      let after = holds_after c.row c.column found.0 found.2 in
      ⊎_elim (λ (h : c.row < found.0.row). omega (arith, after.0))
      (λ (h : (c.row ≡ found.0.row) × (c.column < found.0.column)). omega (arith, h.1, after.1))
      (lex-cases c.row found.0.row c.column found.0.column (later found.1)) where
        later : {x : TableCell} → Memᴰ x (d ∷ ds) → comes_before c x ≡ true
        later (Memᴰ.head q) = rw q first
        later {x} (Memᴰ.tail m) = comes_before-strict.transitive c d x first (sorted_head comes_before comes_before-strict d ds other.ordered m)

module _ {t u : Table} (rows : length t.sections ≡ length u.sections) (columns : length t.columns ≡ length u.columns) where
  module _ {before : ℕ → ℕ → ℕ} {c d : TableCell} {cs ds : List TableCell} (mine : Rest t before (c ∷ cs)) (other : Rest u before (d ∷ ds)) where
    rest-row : c.row ≡ d.row
    rest-row = go (le-or-lt c.row d.row) (le-or-lt d.row c.row) where
      go : (c.row ≤ d.row) ⊎ (d.row < c.row) → (d.row ≤ c.row) ⊎ (c.row < d.row) → c.row ≡ d.row
      go (inl h) (inl k) = omega arith
      go (inr h) k = absurd (rest-not-before (sym rows) (sym columns) other mine (lex-above d.row c.row d.column c.column h))
      go (inl h) (inr k) = absurd (rest-not-before rows columns mine other (lex-above c.row d.row c.column d.column k))

    rest-column : c.column ≡ d.column
    rest-column = go (le-or-lt c.column d.column) (le-or-lt d.column c.column) where
      go : (c.column ≤ d.column) ⊎ (d.column < c.column) → (d.column ≤ c.column) ⊎ (c.column < d.column) → c.column ≡ d.column
      go (inl h) (inl k) = omega arith
      go (inr h) k = absurd (rest-not-before (sym rows) (sym columns) other mine (lex-beside d.row c.row d.column c.column (sym rest-row) h))
      go (inl h) (inr k) = absurd (rest-not-before rows columns mine other (lex-beside c.row d.row c.column d.column rest-row k))

  -- cells with the same spans, left to hold the same squares, stand in the same places
  rest-places : (before : ℕ → ℕ → ℕ) (cs ds : List TableCell) → Rest t before cs → Rest u before ds
      → map (λ (c : TableCell). c.colspan) cs ≡ map (λ (c : TableCell). c.colspan) ds
      → map (λ (c : TableCell). c.rowspan) cs ≡ map (λ (c : TableCell). c.rowspan) ds
      → (map (λ (c : TableCell). c.row) cs ≡ map (λ (c : TableCell). c.row) ds) × (map (λ (c : TableCell). c.column) cs ≡ map (λ (c : TableCell). c.column) ds)
  rest-places before [] [] mine other colspans rowspans = (refl, refl)
  rest-places before [] (d ∷ ds) mine other colspans rowspans = absurd (omega (arith, ap length colspans))
  rest-places before (c ∷ cs) [] mine other colspans rowspans = absurd (omega (arith, ap length colspans))
  rest-places before (c ∷ cs) (d ∷ ds) mine other colspans rowspans =
      let row = rest-row mine other in
      let column = rest-column mine other in
      let same = holds_same c d row column (ap (λ l. get_or l 0 0) colspans) (ap (λ l. get_or l 0 0) rowspans) in
      let later = rest-places (λ r k. before r k + bit (holds_square r k c)) cs ds (rest-next c (λ r k. refl) mine) (rest-next c same other)
      (ap (drop 1) colspans) (ap (drop 1) rowspans) in
      ((λ i. row i ∷ later.0 i), (λ i. column i ∷ later.1 i))

-- Tables of the same numbers of rows and columns whose cells have the same spans, in order, have them in the same places.
pub keeps-places : (t u : Table) → keeps_rules t ≡ true → keeps_rules u ≡ true → length t.sections ≡ length u.sections → length t.columns ≡ length u.columns
    → each_cell (λ c. c.colspan) t ≡ each_cell (λ c. c.colspan) u → each_cell (λ c. c.rowspan) t ≡ each_cell (λ c. c.rowspan) u → SamePlaces t u
keeps-places t u keeps keeps' rows columns colspans rowspans =
    let places = rest-places rows columns (λ r k. 0) t.cells u.cells (rest_all t keeps) (rest_all u keeps') colspans rowspans in
    record { rows = places.0; columns = places.1 }
