-- The skyline tells whether the cells cover every square once: `cell-placed` of a cell that stands level, `not-level` of one that does
-- not, and `cover-told` of all of them.
use Prim.Native.Nat.{ℕ, suc, ◌+◌, ◌*◌, ◌≤◌, ◌<◌}
use mathlib.Core.Path.{◌≡◌, sym, ap, subst, ◌∙◌}
use mathlib.Core.Bool.{Bool, true, false, not}
use mathlib.Core.Logic.{◌⊎◌, inl, inr, ⊎_elim}
use mathlib.Core.List.{List, [], ◌∷◌, ◌++◌}
use native.Mathlib.Omega.{arith}
use native.Mathlib.Nat.{eq-or-lt_of_le}
use native.Mathlib.Numerals.{add-one}
use lib.Dec.{ltb}
use lib.ListN.{length, get_or, take, drop, replicate, length-replicate, get_or-replicate}
use lib.Seq.{take-suc, split_at, take_all}
use borrow.Author.Tests.{le-leb, lt-ltb, le-ltb, not-true, not-false}
use Rattle.seq.specs.Lists.{select, neighbours}
use Rattle.seq.proofs.Tests.{true-not-false, and_intro, bool_same, bool-refused, le-or-lt, bit, bit-true, bit-false}
use Rattle.seq.proofs.Searches.{count-cons, count_none}
use Rattle.seq.proofs.Sorted.{sorted-behind}
use Rattle.seq.proofs.Gathered.{count-append}
use Rattle.grid.specs.Values.{TableCell}
use Rattle.drawing.specs.GridRules.{comes_before, holds_square, cover_once}
use Rattle.representation.specs.TableIn.{no_cell, cell_in}
use Rattle.representation.proofs.TableInLaws.{cells-length, cells_at}
use Rattle.table_checks.specs.Places.{places_of, grid_in, Laid}
use Rattle.table_checks.specs.Skyline.{all_at, Raised}
use Rattle.table_checks.proofs.cover.LevelLaws.{all-at-levels, levels-all-at, raised-inside, raised-left, raised-right}
use Rattle.table_checks.proofs.cover.SquareLaws.{held, rows_join, holds-column, not_left, not_right, not-above}
use Rattle.table_checks.proofs.cover.SquareLaws.{later_rows, cover-squares, squares-cover}

-- the cells hold each square above the skyline once, and none below it
pub record Heaped (cells : List TableCell) (rows : ℕ) (bottoms : List ℕ) : Type 0 where
  pub room : length bottoms ≡ 128
  pub low : (x : ℕ) → x < 128 → get_or bottoms x 0 ≤ rows
  pub above : (y x : ℕ) → x < 128 → held y x cells ≡ bit (ltb y (get_or bottoms x 0))

-- ---- at first
pub none-heaped : (n rows : ℕ) (cells : List ℕ) → Heaped (take 0 (places_of n cells)) rows (replicate 128 0)
unfolding select
none-heaped n rows cells =
    record {
      room = length-replicate {A = ℕ} 128 0;
      low = λ x h. omega (arith, get_or-replicate {A = ℕ} 128 x 0 0 h);
      above = λ y x h. rw (get_or-replicate {A = ℕ} 128 x 0 0 h, le-ltb y 0 (omega arith));
    }

-- ---- at last
module _ (columns n : ℕ) (sections cells : List ℕ) (laid : Laid columns n sections cells) (k : ℕ) (bottoms : List ℕ)
    (heaped : Heaped (take k (places_of n cells)) (length sections) bottoms) (done : n ≤ k) where
  all_above : (y x : ℕ) → x < columns → held y x (places_of n cells) ≡ bit (ltb y (get_or bottoms x 0))
  all_above y x w =
      let whole = take_all k (places_of n cells) (omega (arith, cells-length n cells [])) in
      ap (held y x) (sym whole) ∙ heaped.above y x (omega (arith, laid.placed.narrow))

  level-covers : all_at bottoms 0 columns (length sections) ≡ true → cover_once (grid_in columns n sections cells) ≡ true
  level-covers e =
      let level = all-at-levels bottoms columns (length sections) 0 e in
      squares-cover columns n sections cells (λ y x u w. all_above y x w ∙ bit-true (lt-ltb y (get_or bottoms x 0) (omega (arith, level x (omega arith) w))))

  -- the square below a column that ends above the last row is open
  covers-level : cover_once (grid_in columns n sections cells) ≡ true → all_at bottoms 0 columns (length sections) ≡ true
  covers-level e = levels-all-at bottoms columns (length sections) 0 (λ x low w. ⊎_elim (λ f. f) (open-below x w) (eq-or-lt_of_le (bounded x w))) where
    bounded : (x : ℕ) → x < columns → get_or bottoms x 0 ≤ length sections
    bounded x w = heaped.low x (omega (arith, laid.placed.narrow))

    open-below : (x : ℕ) → x < columns → get_or bottoms x 0 < length sections → get_or bottoms x 0 ≡ length sections
    open-below x w u =
        let y = get_or bottoms x 0 in
        absurd (omega (arith, cover-squares columns n sections cells e y x u w, all_above y x w, bit-false (le-ltb y y (omega arith))))

  pub cover-told : (a : Bool) → a ≡ all_at bottoms 0 columns (length sections) → a ≡ cover_once (grid_in columns n sections cells)
  cover-told a told =
      told ∙ bool_same (all_at bottoms 0 columns (length sections)) (cover_once (grid_in columns n sections cells)) level-covers covers-level

-- ---- a cell's last column and row
module _ (columns n k : ℕ) (sections cells : List ℕ) (laid : Laid columns n sections cells) (h : k < n) where
  pub right-fits : get_or cells (5 * k + 1) 0 + get_or cells (5 * k + 2) 0 ≤ 128
  right-fits = omega (arith, (laid.within k h).near, laid.placed.narrow)

  pub bottom-fits : get_or cells (5 * k) 0 + get_or cells (5 * k + 3) 0 < 256
  bottom-fits = omega (arith, (laid.within k h).low, laid.placed.low)

-- ---- cell k
module _ (columns n : ℕ) (sections cells : List ℕ) (laid : Laid columns n sections cells) (k : ℕ) (h : k < n) (bottoms : List ℕ)
    (heaped : Heaped (take k (places_of n cells)) (length sections) bottoms) where
  -- its numbers
  abbrev row : ℕ
  row = get_or cells (5 * k) 0

  abbrev left : ℕ
  left = get_or cells (5 * k + 1) 0

  abbrev right : ℕ
  right = left + get_or cells (5 * k + 2) 0

  abbrev bottom : ℕ
  bottom = row + get_or cells (5 * k + 3) 0

  -- the cells before it, it, and those after it
  abbrev before : List TableCell
  before = take k (places_of n cells)

  abbrev here : TableCell
  here = cell_in cells [] k

  abbrev after : List TableCell
  after = drop (suc k) (places_of n cells)

  inside : k < length (places_of n cells)
  inside = omega (arith, cells-length n cells [])

  -- ---- it stands level
  one_more : (y x : ℕ) → held y x (take (k + 1) (places_of n cells)) ≡ held y x before + bit (holds_square y x here)
  unfolding select
  one_more y x =
      let e : take (k + 1) (places_of n cells) ≡ before ++ here ∷ [] =
      rw (add-one k) (take-suc (places_of n cells) k no_cell inside ∙ rw (cells_at n cells [] k no_cell h)) in
      rw e (omega (arith, count-append (holds_square y x) before (here ∷ []), count-cons (holds_square y x) here []))

  placed-level : (new : List ℕ) → all_at bottoms left right row ≡ true → Raised bottoms left right bottom new
      → Heaped (take (k + 1) (places_of n cells)) (length sections) new
  placed-level new level raised = record { room = raised.room; low = lower; above = λ y x u. one_more y x ∙ holding y x u } where
    beside : (x : ℕ) → x < 128 → (x < left) ⊎ (right ≤ x) → get_or new x 0 ≡ get_or bottoms x 0
    beside x u (inl l) = raised-left bottoms left right bottom new raised x u l
    beside x u (inr r) = raised-right bottoms left right bottom new raised x u r

    lower : (x : ℕ) → x < 128 → get_or new x 0 ≤ length sections
    lower x u =
        ⊎_elim (λ (l : left ≤ x). ⊎_elim (λ (r : right ≤ x). omega (arith, beside x u (inr r), heaped.low x u))
        (λ (r : x < right). omega (arith, raised-inside bottoms left right bottom new raised x u l r, (laid.within k h).low)) (le-or-lt right x))
        (λ (l : x < left). omega (arith, beside x u (inl l), heaped.low x u)) (le-or-lt left x)

    apart : (y x : ℕ) → x < 128 → (x < left) ⊎ (right ≤ x) → holds_square y x here ≡ false
        → held y x before + bit (holds_square y x here) ≡ bit (ltb y (get_or new x 0))
    apart y x u side e = rw (e, beside x u side) (omega (arith, heaped.above y x u))

    within : (y x : ℕ) → x < 128 → left ≤ x → x < right → held y x before + bit (holds_square y x here) ≡ bit (ltb y (get_or new x 0))
    within y x u l r =
        let stands = all-at-levels bottoms right row left level x l r in
        let rises = raised-inside bottoms left right bottom new raised x u l r in
        rw (heaped.above y x u, stands, rises, holds-column here y x l r) (rows_join y row bottom (omega arith))

    holding : (y x : ℕ) → x < 128 → held y x before + bit (holds_square y x here) ≡ bit (ltb y (get_or new x 0))
    holding y x u =
        ⊎_elim (λ (l : left ≤ x). ⊎_elim (λ (r : right ≤ x). apart y x u (inr r) (not_right here y x r)) (within y x u l) (le-or-lt right x))
        (λ (l : x < left). apart y x u (inl l) (not_left here y x l)) (le-or-lt left x)

  pub cell-placed : (a : Bool) → a ≡ all_at bottoms left right row → not a ≡ false → (new : List ℕ) → Raised bottoms left right bottom new
      → Heaped (take (k + 1) (places_of n cells)) (length sections) new
  cell-placed a told e new raised = placed-level new (sym told ∙ not-false a e) raised

  -- ---- it does not
  parts : places_of n cells ≡ before ++ here ∷ after
  parts = split_at (places_of n cells) k no_cell inside ∙ ap (λ (c : TableCell). before ++ c ∷ after) (cells_at n cells [] k no_cell h)

  all_held : (y x : ℕ) → held y x (places_of n cells) ≡ held y x before + bit (holds_square y x here) + held y x after
  all_held y x =
      ap (held y x) parts ∙ omega (arith, count-append (holds_square y x) before (here ∷ after), count-cons (holds_square y x) here after)

  module _ (ordered : neighbours comes_before (places_of n cells) ≡ true) where
    -- above its row, later cells hold nothing
    none_after : (y x : ℕ) → y < row → held y x after ≡ 0
    none_after y x u =
        let sorted = sorted-behind comes_before before (here ∷ after) (subst (λ (l : List TableCell). neighbours comes_before l ≡ true) parts ordered) in
        count_none (holds_square y x) after (λ d m e. true-not-false (sym e ∙ not-above d y x (omega (arith, later_rows here after sorted m))))

    -- so that where every square is held once, it stands level
    cover-level : cover_once (grid_in columns n sections cells) ≡ true → all_at bottoms left right row ≡ true
    cover-level cover = levels-all-at bottoms right row left stands where
      once : (y x : ℕ) → y < length sections → x < right → held y x before + bit (holds_square y x here) + held y x after ≡ 1
      once y x u r = sym (all_held y x) ∙ cover-squares columns n sections cells cover y x u (omega (arith, (laid.within k h).near))

      narrow : (x : ℕ) → x < right → x < 128
      narrow x r = omega (arith, right-fits columns n k sections cells laid h)

      open-below : (x : ℕ) → x < right → get_or bottoms x 0 < row → get_or bottoms x 0 ≡ row
      open-below x r u =
          let y = get_or bottoms x 0 in
          let none_before = heaped.above y x (narrow x r) ∙ bit-false (le-ltb y y (omega arith)) in
          absurd (omega (arith, once y x (omega (arith, (laid.within k h).low)) r, none_before, bit-false (not-above here y x u), none_after y x u))

      twice : (x : ℕ) → left ≤ x → x < right → row < get_or bottoms x 0 → get_or bottoms x 0 ≡ row
      twice x l r u =
          let held-before = heaped.above row x (narrow x r) ∙ bit-true (lt-ltb row (get_or bottoms x 0) u) in
          let its-row = and_intro (le-leb row row (omega arith)) (lt-ltb row bottom (omega (arith, (laid.within k h).tall))) in
          let held-here = bit-true (holds-column here row x l r ∙ its-row) in
          absurd (omega (arith, once row x (omega (arith, (laid.within k h).tall, (laid.within k h).low)) r, held-before, held-here))

      stands : (x : ℕ) → left ≤ x → x < right → get_or bottoms x 0 ≡ row
      stands x l r =
          ⊎_elim (λ (u : get_or bottoms x 0 ≤ row). ⊎_elim (λ e. e) (open-below x r) (eq-or-lt_of_le u)) (twice x l r) (le-or-lt (get_or bottoms x 0) row)

    pub not-level : (a : Bool) → a ≡ all_at bottoms left right row → not a ≡ true → false ≡ cover_once (grid_in columns n sections cells)
    not-level a told e =
        sym (bool-refused (cover_once (grid_in columns n sections cells)) (λ cover. true-not-false (sym (cover-level cover) ∙ sym told ∙ not-true a e)))
