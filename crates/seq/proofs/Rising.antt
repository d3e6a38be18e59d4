-- Laws of lists of numbers that rise, and of a number's rising-position in one: how many are less than it.
use Prim.Native.Nat.{ℕ, zero, suc, ◌+◌, ◌≤◌, ◌<◌}
use mathlib.Core.Path.{◌≡◌, refl, sym, ap, ◌∙◌}
use mathlib.Core.Bool.{Bool, true, false}
use mathlib.Core.Logic.{⊎_elim}
use mathlib.Core.List.{List, [], ◌∷◌, Memᴰ}
use native.Mathlib.Omega.{arith}
use native.Mathlib.Nat.{eq-or-lt_of_le}
use lib.Dec.{leb, ltb}
use lib.ListN.{length, get_or}
use borrow.Author.Tests.{ltb-true, lt-ltb, le-ltb, le-leb, lt-leb}
use Rattle.seq.specs.Lists.{range, select, cons_if, count, neighbours}
use Rattle.seq.proofs.Tests.{and_intro, le-or-lt, bit-true, bit-false}
use Rattle.seq.proofs.Searches.{select-mem, count-cons, count_none}
use Rattle.seq.proofs.Positions.{get_or-mem}
use Rattle.seq.proofs.Sorted.{Strict, sorted_tail, sorted_head}

pub rising-strict : Strict ltb
rising-strict =
    record {
      irreflexive = λ a. le-ltb a a (omega arith);
      transitive = λ a b c e f. lt-ltb a c (omega (arith, ltb-true a b e, ltb-true b c f));
    }

pub range-rises : (from count : ℕ) → neighbours ltb (range from count) ≡ true
unfolding range neighbours
range-rises from zero = refl
range-rises from (suc zero) = refl
range-rises from (suc (suc count)) = and_intro (lt-ltb from (from + 1) (omega arith)) (range-rises (from + 1) (suc count))

-- what is selected from a list in order is in order
module _ {A : Type 0} (before : A → A → Bool) (strict : Strict before) (test : A → Bool) where
  cons-sorted : (a : A) (l : List A) → neighbours before l ≡ true → ((x : A) → Memᴰ x l → before a x ≡ true) → neighbours before (a ∷ l) ≡ true
  unfolding neighbours
  cons-sorted a [] e h = refl
  cons-sorted a (b ∷ l) e h = and_intro (h b (Memᴰ.head refl)) e

  pub select-sorted : (l : List A) → neighbours before l ≡ true → neighbours before (select test l) ≡ true
  unfolding select neighbours
  select-sorted [] e = refl
  select-sorted (a ∷ l) e = go (test a) (select-sorted l (sorted_tail before a l e)) where
    go : (t : Bool) → neighbours before (select test l) ≡ true → neighbours before (cons_if t a (select test l)) ≡ true
    go true later = cons-sorted a (select test l) later (λ x m. sorted_head before strict a l e (select-mem test l m).0)
    go false later = later

-- ---- positions in a rising list

pub rising-get_or : (l : List ℕ) → neighbours ltb l ≡ true → (i j : ℕ) → i < j → j < length l → get_or l i 0 < get_or l j 0
rising-get_or [] e i j ij jl = absurd (omega arith)
rising-get_or (a ∷ l) e i zero ij jl = absurd (omega arith)
rising-get_or (a ∷ l) e zero (suc j) ij jl = ltb-true a (get_or l j 0) (sorted_head ltb rising-strict a l e (get_or-mem l j 0 (omega arith)))
rising-get_or (a ∷ l) e (suc i) (suc j) ij jl = rising-get_or l (sorted_tail ltb a l e) i j (omega arith) (omega arith)

pub record Position (l : List ℕ) (x : ℕ) : Type 0 where
  pub inside : count (λ n. ltb n x) l < length l
  pub here : get_or l (count (λ n. ltb n x) l) 0 ≡ x

pub rising-position : (l : List ℕ) → neighbours ltb l ≡ true → {x : ℕ} → Memᴰ x l → Position l x
rising-position [] e {x = x} x4 = elim x4 [ ]
rising-position (a ∷ l) e {x} (Memᴰ.head q) =
    let later : count (λ n. ltb n x) l ≡ 0 =
    count_none (λ n. ltb n x) l (λ n m t. omega (arith, ltb-true a n (sorted_head ltb rising-strict a l e m), ltb-true n x t)) in
    let none_below : count (λ n. ltb n x) (a ∷ l) ≡ 0 = omega (arith, count-cons (λ n. ltb n x) a l, bit-false (le-ltb a x (omega arith))) in
    record { inside = omega arith; here = rw none_below (sym q) }
rising-position (a ∷ l) e {x} (Memᴰ.tail m) =
    let rest = rising-position l (sorted_tail ltb a l e) m in
    let one_more : count (λ n. ltb n x) (a ∷ l) ≡ suc (count (λ n. ltb n x) l) =
    omega (arith, count-cons (λ n. ltb n x) a l, bit-true (sorted_head ltb rising-strict a l e m)) in
    record { inside = omega (arith, rest.inside); here = rw one_more rest.here }

-- positions are ordered as the numbers are
module _ (l : List ℕ) (rises : neighbours ltb l ≡ true) where
  abbrev pub at : ℕ → ℕ
  at x = count (λ n. ltb n x) l

  earlier : {x i : ℕ} → Memᴰ x l → i < at x → get_or l i 0 < x
  earlier {x} {i} m h = let p = rising-position l rises m in omega (arith, p.here, rising-get_or l rises i (at x) h p.inside)

  later : {x i : ℕ} → Memᴰ x l → i < length l → at x ≤ i → x ≤ get_or l i 0
  later {x} {i} m inside h =
      let p = rising-position l rises m in
      ⊎_elim (λ (e : at x ≡ i). omega (arith, p.here, ap (λ (k : ℕ). get_or l k 0) e)) (λ (k : at x < i). omega (arith, p.here, rising-get_or l rises (at x) i k inside))
      (eq-or-lt_of_le h)

  pub position-leb : {x : ℕ} → Memᴰ x l → (i : ℕ) → i < length l → leb (at x) i ≡ leb x (get_or l i 0)
  position-leb {x} m i inside = ⊎_elim low high (le-or-lt (at x) i) where
    low : at x ≤ i → leb (at x) i ≡ leb x (get_or l i 0)
    low h = le-leb (at x) i h ∙ sym (le-leb x (get_or l i 0) (later m inside h))

    high : i < at x → leb (at x) i ≡ leb x (get_or l i 0)
    high h = lt-leb (at x) i h ∙ sym (lt-leb x (get_or l i 0) (earlier m h))

  pub position-ltb : {x : ℕ} → Memᴰ x l → (i : ℕ) → i < length l → ltb i (at x) ≡ ltb (get_or l i 0) x
  position-ltb {x} m i inside = ⊎_elim low high (le-or-lt (at x) i) where
    low : at x ≤ i → ltb i (at x) ≡ ltb (get_or l i 0) x
    low h = le-ltb i (at x) h ∙ sym (le-ltb (get_or l i 0) x (later m inside h))

    high : i < at x → ltb i (at x) ≡ ltb (get_or l i 0) x
    high h = lt-ltb i (at x) h ∙ sym (lt-ltb (get_or l i 0) x (earlier m h))

  pub position-lt : {x y : ℕ} → Memᴰ x l → Memᴰ y l → x < y → at x < at y
  position-lt {x} {y} m n h =
      let p = rising-position l rises m in
      ltb-true (at x) (at y) (position-ltb n (at x) p.inside ∙ lt-ltb (get_or l (at x) 0) y (omega (arith, p.here)))

  pub position_at : (i : ℕ) → i < length l → at (get_or l i 0) ≡ i
  position_at i h =
      let m = get_or-mem l i 0 h in
      let p = rising-position l rises m in
      ⊎_elim (λ (k : at (get_or l i 0) ≤ i). ⊎_elim (λ (e : at (get_or l i 0) ≡ i). e) (λ (j : at (get_or l i 0) < i). absurd (omega (arith, p.here, rising-get_or l rises (at (get_or l i 0)) i j h))) (eq-or-lt_of_le k))
      (λ (k : i < at (get_or l i 0)). absurd (omega (arith, earlier m k))) (le-or-lt (at (get_or l i 0)) i)
