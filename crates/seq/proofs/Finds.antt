-- Laws of `find`, and of the first that passes a test: in a list `FirstPass`, in a range `FirstIn`. Others cite `find-only`,
-- `find-nothing`, `find_none` and `first-pass` of a list; `first-in`, `range-any`, `find_first` and `find-in` of a range.
use Prim.Native.Nat.{ℕ, zero, suc, ◌+◌, ◌≤◌, ◌<◌}
use mathlib.Core.Path.{◌≡◌, refl, sym, ap, ◌∙◌}
use mathlib.Core.Bool.{Bool, true, false, ◌||◌, cond}
use mathlib.Core.Logic.{⊎_elim}
use mathlib.Core.Option.{none, some}
use mathlib.Core.List.Memᴰ
use mathlib.Core.List.{List, [], ◌∷◌, ◌++◌, Memᴰ}
use native.Mathlib.Omega.{arith}
use native.Mathlib.Nat.{le_refl, eq-or-lt_of_le}
use Rattle.seq.specs.Lists.{range, any, find}
use Rattle.seq.proofs.Tests.{true-not-false, bool_cases}
use Rattle.seq.proofs.Ranges.{mem-range}
use Rattle.seq.proofs.Searches.{mem-any, any_none}

module _ {A : Type 0} (test : A → Bool) where
  -- the only member that passes is the one found
  pub find-only : {a : A} {l : List A} → Memᴰ a l → test a ≡ true → ((b : A) → Memᴰ b l → test b ≡ true → b ≡ a) → find test l ≡ some a
  unfolding find
  find-only {a = a} (Memᴰ.head {x} {xs} q) e only = let f : test x ≡ true = rw q at e in rw f (ap some (sym q))
  find-only {a = a} (Memᴰ.tail {x} {xs} m) e only = go (test x) refl (find-only m e (λ b n. only b (Memᴰ.tail n))) where
    go : (t : Bool) → test x ≡ t → find test xs ≡ some a → cond t (some x) (find test xs) ≡ some a
    go true h later = ap some (only x (Memᴰ.head refl) h)
    go false h later = later

  pub find-nothing : (l : List A) → ((a : A) → Memᴰ a l → test a ≡ false) → find test l ≡ none
  unfolding find
  find-nothing [] h = refl
  find-nothing (x ∷ l) h = rw (h x (Memᴰ.head refl)) (find-nothing l (λ a m. h a (Memᴰ.tail m)))

  pub find_none : (l : List A) → find test l ≡ none → {a : A} → Memᴰ a l → test a ≡ false
  unfolding find
  find_none [] e {a = a} m = elim m [ ]
  find_none (x ∷ l) e {a} m = go (test x) refl e m (λ e n. find_none l e n) where
    go : (t : Bool) → test x ≡ t → cond t (some x) (find test l) ≡ none → Memᴰ a (x ∷ l) → (find test l ≡ none → Memᴰ a l → test a ≡ false) → test a ≡ false
    go true q e m later = absurd (let z : ◌≡◌ {A = ℕ} 0 1 = cc in omega arith)
    go false q e (Memᴰ.head r) later = rw r q
    go false q e (Memᴰ.tail n) later = later e n

-- none passes, or there is a first that does
pub data FirstPass {A : Type 0} (test : A → Bool) (l : List A) : Type 0 where
  nowhere : ((a : A) → Memᴰ a l → test a ≡ false) → FirstPass test l
  here : (pre : List A) (k : A) (post : List A) → l ≡ pre ++ k ∷ post → ((a : A) → Memᴰ a pre → test a ≡ false) → test k ≡ true → FirstPass test l

pub first-pass : {A : Type 0} (test : A → Bool) (l : List A) → FirstPass test l
first-pass test [] = nowhere (λ a m. absurd (Memᴰ.not-nil m))
first-pass {A} test (x ∷ l) = go (test x) refl (first-pass test l) where
  before : (r : List A) → test x ≡ false → ((a : A) → Memᴰ a r → test a ≡ false) → {a : A} → Memᴰ a (x ∷ r) → test a ≡ false
  before r e h (Memᴰ.head q) = ap test q ∙ e
  before r e h {a} (Memᴰ.tail m) = h a m

  go : (t : Bool) → test x ≡ t → FirstPass test l → FirstPass test (x ∷ l)
  go true e r = here [] x l refl (λ a m. absurd (Memᴰ.not-nil m)) e
  go false e (nowhere h) = nowhere (λ a m. before l e h m)
  go false e (here pre k post q h d) = here (x ∷ pre) k post (ap (λ (z : List A). x ∷ z) q) (λ a m. before pre e h m) d

module _ (test : ℕ → Bool) where
  -- the first of a range that passes
  pub record FirstIn (from count : ℕ) : Type 0 where
    pub at : ℕ
    pub low : from ≤ at
    pub high : at < from + count
    pub found : test at ≡ true
    pub before : (x : ℕ) → from ≤ x → x < at → test x ≡ false

  pub first-in : (from count : ℕ) → any test (range from count) ≡ true → FirstIn from count
  unfolding range any
  first-in from zero e = absurd (true-not-false (sym e))
  first-in from (suc count) e = go (test from) refl e (first-in (from + 1) count) where
    go : (t : Bool) → test from ≡ t → t || any test (range (from + 1) count) ≡ true
        → (any test (range (from + 1) count) ≡ true → FirstIn (from + 1) count) → FirstIn from (suc count)
    go true q e later = record { at = from; low = le_refl from; high = omega arith; found = q; before = λ x low high. absurd (omega arith) }
    go false q e later =
        let rest = later e in
        record {
          at = rest.at;
          low = omega (arith, rest.low);
          high = omega (arith, rest.high);
          found = rest.found;
          before = λ x low high. ⊎_elim (λ (same : from ≡ x). rw (← same) q) (λ (h : from < x). rest.before x (omega arith) high) (eq-or-lt_of_le low);
        }

  pub range-any : (from count : ℕ) {x : ℕ} → from ≤ x → x < from + count → test x ≡ true → any test (range from count) ≡ true
  range-any from count {x} low high e = mem-any test (mem-range from count x low high) e

  pub find_first : (from count x : ℕ) → from ≤ x → x < from + count → ((i : ℕ) → from ≤ i → i < x → test i ≡ false) → test x ≡ true → find test (range from count) ≡ some x
  unfolding find range
  find_first from zero x low high before e = absurd (omega arith)
  find_first from (suc count) x low high before e =
      ⊎_elim (λ (q : from ≡ x). rw (q, e))
      (λ (q : from < x). rw (before from (le_refl from) q) (find_first (from + 1) count x (omega arith) (omega arith) (λ i a b. before i (omega arith) b) e)) (eq-or-lt_of_le low)

  -- what is found in a range is the first of it that passes
  pub find-in : (from count k : ℕ) → find test (range from count) ≡ some k → (f : FirstIn from count) × (f.at ≡ k)
  find-in from count k e = ⊎_elim there nowhere (bool_cases (any test (range from count))) where
    there : any test (range from count) ≡ true → (f : FirstIn from count) × (f.at ≡ k)
    there a =
        let f = first-in from count a in
        let q = find_first from count f.at f.low f.high f.before f.found in
        (f, cc)

    nowhere : any test (range from count) ≡ false → (f : FirstIn from count) × (f.at ≡ k)
    nowhere a =
        let q = find-nothing test (range from count) (λ x m. any_none test a m) in
        absurd (let z : ◌≡◌ {A = ℕ} 0 1 = cc in omega arith)
