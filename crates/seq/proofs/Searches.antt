-- Laws of searches over lists and ranges.
use Prim.Native.Nat.{ℕ, zero, suc, ◌+◌, ◌≤◌, ◌<◌}
use mathlib.Core.Path.{◌≡◌, refl, sym, ap, ◌∙◌}
use mathlib.Core.Bool.{Bool, true, false, ◌&&◌, ◌||◌, cond}
use mathlib.Core.Logic.{◌⊎◌, inl, inr, ⊎_elim}
use mathlib.Core.Option.{Option, none, some}
use mathlib.Core.List.Memᴰ
use mathlib.Core.List.{List, [], ◌∷◌, map, Memᴰ}
use native.Mathlib.Omega.{arith}
use native.Mathlib.Nat.{eq-or-lt_of_le}
use lib.Dec.{eqb}
use borrow.Author.Tests.{eqb-true, eq-eqb}
use lib.ListN.{length, get_or}
use Rattle.seq.specs.Lists.{range, all, any, select, cons_if, count, or_next, first_some, first_at, some_if, neighbours}
use Rattle.seq.proofs.Tests.{true-not-false, and_left, and_right, and_intro, or_cases, or_left, or_right, bool-refused, bit, bit-true, bit-false, bit-one}
use Rattle.seq.proofs.Ranges.{mem-range, range-mem}
use Rattle.seq.proofs.Positions.{get_or-mem}

module _ {A : Type 0} (test : A → Bool) where
  pub all-mem : (l : List A) → all test l ≡ true → {a : A} → Memᴰ a l → test a ≡ true
  unfolding all
  all-mem [] e {a = a} x'' = elim x'' [ ]
  all-mem (b ∷ l) e (Memᴰ.head q) = rw q (and_left (test b) (all test l) e)
  all-mem (b ∷ l) e (Memᴰ.tail m) = all-mem l (and_right (test b) (all test l) e) m

  pub mem-all : (l : List A) → ((a : A) → Memᴰ a l → test a ≡ true) → all test l ≡ true
  unfolding all
  mem-all [] h = refl
  mem-all (b ∷ l) h = and_intro (h b (Memᴰ.head refl)) (mem-all l (λ a m. h a (Memᴰ.tail m)))

  pub any-mem : (l : List A) → any test l ≡ true → (a : A) × Memᴰ a l × (test a ≡ true)
  unfolding any
  any-mem [] e = absurd (true-not-false (sym e))
  any-mem (b ∷ l) e = go (or_cases (test b) (any test l) e) (any-mem l) where
    go : (test b ≡ true) ⊎ (any test l ≡ true) → (any test l ≡ true → (a : A) × Memᴰ a l × (test a ≡ true))
        → (a : A) × Memᴰ a (b ∷ l) × (test a ≡ true)
    go (inl f) later = (b, Memᴰ.head refl, f)
    go (inr f) later = let found = later f in (found.0, Memᴰ.tail found.1, found.2)

  pub mem-any : {a : A} {l : List A} → Memᴰ a l → test a ≡ true → any test l ≡ true
  unfolding any
  mem-any (Memᴰ.head {x} {xs} q) e = or_left (any test xs) (rw q at e)
  mem-any (Memᴰ.tail {x} {xs} m) e = or_right (test x) (mem-any m e)

  pub any_none : {l : List A} → any test l ≡ false → {a : A} → Memᴰ a l → test a ≡ false
  any_none e {a} m = bool-refused (test a) (λ t. true-not-false (sym (mem-any m t) ∙ e))

  pub none_any : (l : List A) → ((a : A) → Memᴰ a l → test a ≡ false) → any test l ≡ false
  none_any l h = bool-refused (any test l) (λ e. let found = any-mem l e in true-not-false (sym found.2 ∙ h found.0 found.1))

  pub select-mem : (l : List A) {a : A} → Memᴰ a (select test l) → Memᴰ a l × (test a ≡ true)
  unfolding select
  select-mem [] m = elim m [ ]
  select-mem (b ∷ l) {a} m = go (test b) refl m (λ n. select-mem l n) where
    go : (t : Bool) → test b ≡ t → Memᴰ a (cons_if t b (select test l)) → (Memᴰ a (select test l) → Memᴰ a l × (test a ≡ true))
        → Memᴰ a (b ∷ l) × (test a ≡ true)
    go true e (Memᴰ.head q) later = (Memᴰ.head q, rw q e)
    go true e (Memᴰ.tail n) later = let below = later n in (Memᴰ.tail below.0, below.1)
    go false e n later = let below = later n in (Memᴰ.tail below.0, below.1)

  pub mem-select : {a : A} {l : List A} → Memᴰ a l → test a ≡ true → Memᴰ a (select test l)
  unfolding select
  mem-select (Memᴰ.head {x} {xs} q) e = let f : test x ≡ true = rw q at e in rw f (Memᴰ.head q)
  mem-select {a = a} (Memᴰ.tail {x} {xs} m) e = go (test x) (mem-select m e) where
    go : (t : Bool) → Memᴰ a (select test xs) → Memᴰ a (cons_if t x (select test xs))
    go true later = Memᴰ.tail later
    go false later = later

  pub count-cons : (a : A) (l : List A) → count test (a ∷ l) ≡ bit (test a) + count test l
  unfolding select
  count-cons a l = go (test a) where
    go : (t : Bool) → length (cons_if t a (select test l)) ≡ bit t + count test l
    go true = omega arith
    go false = omega arith

  pub count-few : (l : List A) → count test l ≤ length l
  unfolding select
  count-few [] = omega arith
  count-few (a ∷ l) = omega (arith, count-cons a l, bit-one (test a), count-few l)

  pub count-mem : {a : A} {l : List A} → Memᴰ a l → test a ≡ true → 0 < count test l
  count-mem (Memᴰ.head {x} {xs} q) e = let f : test x ≡ true = rw q at e in omega (arith, count-cons x xs, bit-true f)
  count-mem (Memᴰ.tail {x} {xs} m) e = omega (arith, count-cons x xs, count-mem m e)

  pub count-pick : (l : List A) → 0 < count test l → (a : A) × Memᴰ a l × (test a ≡ true)
  unfolding select
  count-pick [] h = absurd (omega arith)
  count-pick (b ∷ l) h = go (test b) refl (count-pick l) where
    go : (t : Bool) → test b ≡ t → (0 < count test l → (a : A) × Memᴰ a l × (test a ≡ true)) → (a : A) × Memᴰ a (b ∷ l) × (test a ≡ true)
    go true e later = (b, Memᴰ.head refl, e)
    go false e later =
        let n : bit (test b) ≡ 0 = rw e in
        let found = later (omega (arith, count-cons b l)) in
        (found.0, Memᴰ.tail found.1, found.2)

  pub count_none : (l : List A) → ((a : A) → Memᴰ a l → test a ≡ true → ⊥) → count test l ≡ 0
  unfolding select
  count_none [] h = refl
  count_none (b ∷ l) h =
      omega (arith, count-cons b l, bit-false (bool-refused (test b) (h b (Memᴰ.head refl))), count_none l (λ a m. h a (Memᴰ.tail m)))

  -- where exactly one passes, any two that pass are the same
  pub count-one : {a b : A} {l : List A} → count test l ≡ 1 → Memᴰ a l → Memᴰ b l → test a ≡ true → test b ≡ true → a ≡ b
  count-one one (Memᴰ.head q) (Memᴰ.head r) e f = q ∙ sym r
  count-one one (Memᴰ.head {x} {xs} q) (Memᴰ.tail n) e f =
      absurd (let g : test x ≡ true = rw q at e in omega (arith, count-cons x xs, bit-true g, count-mem n f))
  count-one one (Memᴰ.tail {x} {xs} m) (Memᴰ.head r) e f =
      absurd (let g : test x ≡ true = rw r at f in omega (arith, count-cons x xs, bit-true g, count-mem m e))
  count-one one (Memᴰ.tail {x} {xs} m) (Memᴰ.tail n) e f = count-one (omega (arith, count-cons x xs, count-mem m e)) m n e f

  -- and stand at the same position
  pub count-one-at : (l : List A) (d : A) (i j : ℕ) → count test l ≡ 1 → i < length l → j < length l → test (get_or l i d) ≡ true → test (get_or l j d) ≡ true → i ≡ j
  count-one-at [] d i j one hi hj e f = absurd (omega arith)
  count-one-at (a ∷ l) d zero zero one hi hj e f = refl
  count-one-at (a ∷ l) d zero (suc j) one hi hj e f = absurd (omega (arith, count-cons a l, bit-true e, count-mem (get_or-mem l j d (omega arith)) f))
  count-one-at (a ∷ l) d (suc i) zero one hi hj e f = absurd (omega (arith, count-cons a l, bit-true f, count-mem (get_or-mem l i d (omega arith)) e))
  count-one-at (a ∷ l) d (suc i) (suc j) one hi hj e f =
      let later : count test l ≡ 1 = omega (arith, count-cons a l, count-mem (get_or-mem l i d (omega arith)) e) in
      ap suc (count-one-at l d i j later (omega arith) (omega arith) e f)

-- tests that give the same on a list count the same
pub count-agree : {A : Type 0} (test other : A → Bool) (l : List A) → ((a : A) → Memᴰ a l → test a ≡ other a) → count test l ≡ count other l
unfolding select
count-agree test other [] h = refl
count-agree test other (b ∷ l) h =
    omega (arith, count-cons test b l, count-cons other b l, count-agree test other l (λ a m. h a (Memᴰ.tail m)), ap bit (h b (Memᴰ.head refl)))

pub any-agree : {A : Type 0} (test other : A → Bool) (l : List A) → ((a : A) → Memᴰ a l → test a ≡ other a) → any test l ≡ any other l
unfolding any
any-agree test other [] h = refl
any-agree test other (a ∷ l) h = rw (h a (Memᴰ.head refl), any-agree test other l (λ b m. h b (Memᴰ.tail m)))

-- a number is in a list where a test for it finds it
pub any-eqb : (n : ℕ) (l : List ℕ) → any (eqb n) l ≡ true → Memᴰ n l
any-eqb n l e = let (a, m, q) = any-mem (eqb n) l e in Memᴰ.cast (eqb-true n a q) m

pub eqb-any : {n : ℕ} {l : List ℕ} → Memᴰ n l → any (eqb n) l ≡ true
eqb-any {n} m = mem-any (eqb n) m (eq-eqb n n refl)

-- ---- through a function
module _ {A B : Type 0} (f : A → B) where
  pub all_map : (test : B → Bool) (l : List A) → all test (map f l) ≡ all (λ a. test (f a)) l
  unfolding all
  all_map test [] = refl
  all_map test (a ∷ l) = ap (λ t. test (f a) && t) (all_map test l)

  pub any-map : (test : B → Bool) (l : List A) → any test (map f l) ≡ any (λ a. test (f a)) l
  unfolding any
  any-map test [] = refl
  any-map test (a ∷ l) = ap (λ t. test (f a) || t) (any-map test l)

  pub count_map : (test : B → Bool) (l : List A) → count test (map f l) ≡ count (λ a. test (f a)) l
  unfolding select
  count_map test [] = refl
  count_map test (a ∷ l) = omega (arith, count-cons test (f a) (map f l), count-cons (λ a. test (f a)) a l, count_map test l)

  pub neighbours-map : (before : B → B → Bool) (l : List A) → neighbours before (map f l) ≡ neighbours (λ a b. before (f a) (f b)) l
  unfolding neighbours
  neighbours-map before [] = refl
  neighbours-map before (a ∷ []) = refl
  neighbours-map before (a ∷ b ∷ l) = ap (λ t. before (f a) (f b) && t) (neighbours-map before (b ∷ l))

-- a test of neighbours that implies another
pub neighbours-imply : {A : Type 0} (before after : A → A → Bool) (l : List A)
    → ((a b : A) → Memᴰ a l → Memᴰ b l → before a b ≡ true → after a b ≡ true) → neighbours before l ≡ true → neighbours after l ≡ true
unfolding neighbours
neighbours-imply before after [] h e = refl
neighbours-imply before after (a ∷ []) h e = refl
neighbours-imply before after (a ∷ b ∷ l) h e =
    and_intro (h a b (Memᴰ.head refl) (Memᴰ.tail (Memᴰ.head refl)) (and_left (before a b) (neighbours before (b ∷ l)) e))
    (neighbours-imply before after (b ∷ l) (λ x y m n. h x y (Memᴰ.tail m) (Memᴰ.tail n)) (and_right (before a b) (neighbours before (b ∷ l)) e))

module _ (test : ℕ → Bool) (from count : ℕ) where
  pub all-range : all test (range from count) ≡ true → (x : ℕ) → from ≤ x → x < from + count → test x ≡ true
  all-range e x low high = all-mem test (range from count) e (mem-range from count x low high)

  pub range_all : ((x : ℕ) → from ≤ x → x < from + count → test x ≡ true) → all test (range from count) ≡ true
  range_all h = mem-all test (range from count) (λ x m. let inside = range-mem from count x m in h x inside.0 inside.1)

-- what a search along a range gives
module _ {B : Type 0} (f : ℕ → Option B) where
  pub record FirstSome (from count : ℕ) (b : B) : Type 0 where
    pub at : ℕ
    pub low : from ≤ at
    pub high : at < from + count
    pub found : f at ≡ some b
    pub before : (x : ℕ) → from ≤ x → x < at → f x ≡ none

  pub first_some-some : (from count : ℕ) (b : B) → first_some f (range from count) ≡ some b → FirstSome from count b
  unfolding range first_some
  first_some-some from zero b e = absurd (let z : ◌≡◌ {A = ℕ} 0 1 = cc in omega arith)
  first_some-some from (suc count) b e = go (f from) refl e (first_some-some (from + 1) count b) where
    go : (o : Option B) → f from ≡ o → or_next o (first_some f (range (from + 1) count)) ≡ some b
        → (first_some f (range (from + 1) count) ≡ some b → FirstSome (from + 1) count b) → FirstSome from (suc count) b
    go none q e later =
        let rest = later e in
        record {
          at = rest.at;
          low = omega arith;
          high = omega arith;
          found = rest.found;
          before = λ x low high. ⊎_elim (λ (same : from ≡ x). rw (← same) q) (λ (h : from < x). rest.before x (omega arith) high) (eq-or-lt_of_le low);
        }
    go (some c) q e later =
        record { at = from; low = omega arith; high = omega arith; found = q ∙ e; before = λ x low high. absurd (omega arith) }

  pub first_some-none : (from count : ℕ) → first_some f (range from count) ≡ none → (x : ℕ) → from ≤ x → x < from + count → f x ≡ none
  unfolding range first_some
  first_some-none from zero e x low high = absurd (omega arith)
  first_some-none from (suc count) e x low high = go (f from) refl e (first_some-none (from + 1) count) where
    go : (o : Option B) → f from ≡ o → or_next o (first_some f (range (from + 1) count)) ≡ none
        → (first_some f (range (from + 1) count) ≡ none → (x : ℕ) → from + 1 ≤ x → x < from + 1 + count → f x ≡ none) → f x ≡ none
    go none q e later = ⊎_elim (λ (same : from ≡ x). rw (← same) q) (λ (h : from < x). later e x (omega arith) (omega arith)) (eq-or-lt_of_le low)
    go (some c) q e later = absurd (let z : ◌≡◌ {A = ℕ} 0 1 = cc in omega arith)

-- a test as a search
pub some_if-some : {A : Type 0} (t : Bool) (a b : A) → some_if t a ≡ some b → (t ≡ true) × (a ≡ b)
some_if-some true a b e = (refl, cc)
some_if-some false a b e = absurd (let z : ◌≡◌ {A = ℕ} 0 1 = cc in omega arith)

pub some_if-none : {A : Type 0} (t : Bool) (a : A) → some_if t a ≡ none → t ≡ false
some_if-none true a e = absurd (let z : ◌≡◌ {A = ℕ} 0 1 = cc in omega arith)
some_if-none false a e = refl

module _ {A : Type 0} (test : A → Bool) where
  -- what a search by position gives
  pub record FirstAt (at : ℕ) (l : List A) (place : ℕ) : Type 0 where
    pub index : ℕ
    pub placed : place ≡ at + index
    pub inside : index < length l
    pub found : (d : A) → test (get_or l index d) ≡ true
    pub before : (j : ℕ) (d : A) → j < index → test (get_or l j d) ≡ false

  earlier : {at place : ℕ} {a : A} {l : List A} → test a ≡ false → (rest : FirstAt at l place)
      → (j : ℕ) (d : A) → j < suc rest.index → test (get_or (a ∷ l) j d) ≡ false
  earlier q rest zero d h = q
  earlier q rest (suc j) d h = rest.before j d (omega arith)

  pub first_at-some : (at : ℕ) (l : List A) (place : ℕ) → first_at test at l ≡ some place → FirstAt at l place
  unfolding first_at
  first_at-some at [] place e = absurd (let z : ◌≡◌ {A = ℕ} 0 1 = cc in omega arith)
  first_at-some at (a ∷ l) place e = go (test a) refl e (first_at-some (at + 1) l place) where
    go : (t : Bool) → test a ≡ t → cond t (some at) (first_at test (at + 1) l) ≡ some place
        → (first_at test (at + 1) l ≡ some place → FirstAt (at + 1) l place) → FirstAt at (a ∷ l) place
    go true q e later =
        let same : at ≡ place = cc in
        record { index = 0; placed = omega arith; inside = omega arith; found = λ d. q; before = λ j d h. absurd (omega arith) }
    go false q e later =
        let rest = later e in
        record { index = suc rest.index; placed = omega arith; inside = omega arith; found = λ d. rest.found d; before = earlier q rest }

  pub first_at-none : (at : ℕ) (l : List A) → first_at test at l ≡ none → {a : A} → Memᴰ a l → test a ≡ false
  unfolding first_at
  first_at-none at [] e {a = a} m = elim m [ ]
  first_at-none at (b ∷ l) e {a} m = go (test b) refl e m (λ e n. first_at-none (at + 1) l e n) where
    go : (t : Bool) → test b ≡ t → cond t (some at) (first_at test (at + 1) l) ≡ none → Memᴰ a (b ∷ l)
        → (first_at test (at + 1) l ≡ none → Memᴰ a l → test a ≡ false) → test a ≡ false
    go true q e m later = absurd (let z : ◌≡◌ {A = ℕ} 0 1 = cc in omega arith)
    go false q e (Memᴰ.head r) later = rw r q
    go false q e (Memᴰ.tail n) later = later e n

  pub first_at-nothing : (at : ℕ) (l : List A) → ((a : A) → Memᴰ a l → test a ≡ false) → first_at test at l ≡ none
  unfolding first_at
  first_at-nothing at [] h = refl
  first_at-nothing at (a ∷ l) h = rw (h a (Memᴰ.head refl)) (first_at-nothing (at + 1) l (λ b m. h b (Memᴰ.tail m)))
