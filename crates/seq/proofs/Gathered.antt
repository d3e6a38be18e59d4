-- Laws of what a loop over the positions of a list has gathered: a sum, what a test selects, the first position that passes one.
use Prim.Native.Nat.{ℕ, zero, suc, ◌+◌, ◌≤◌, ◌<◌}
use mathlib.Core.Path.{◌≡◌, refl, sym, ap, ◌∙◌}
use mathlib.Core.Bool.{Bool, true, false, ◌&&◌, ◌||◌, cond}
use mathlib.Core.Option.{Option, none, some}
use mathlib.Core.Logic.{⊎_elim}
use mathlib.Core.List.{List, [], ◌∷◌, ◌++◌}
use native.Mathlib.Omega.{arith}
use native.Mathlib.Nat.{add-zero, zero-add, eq-or-lt_of_le}
use native.Mathlib.Numerals.{add-one}
use lib.ListN.{length, take, get_or, length-append}
use Rattle.seq.specs.Lists.{range, up_to, sum, all, any, count, select, cons_if, first_at}
use Rattle.seq.proofs.Tests.{true-not-false, and-true, le-or-lt}
use Rattle.seq.proofs.Walks.{or-false, any_append, all_append}
use Rattle.seq.proofs.Searches.{first_at-some, first_at-none}
use Rattle.seq.proofs.Positions.{get_or-mem}

-- the sum before position i, and after it
sum-suc : (l : List ℕ) (i : ℕ) → i < length l → sum (take (suc i) l) ≡ sum (take i l) + get_or l i 0
unfolding sum
sum-suc [] i h = absurd (omega arith)
sum-suc (n ∷ l) zero h = omega arith
sum-suc (n ∷ l) (suc i) h = omega (arith, sum-suc l i (omega arith))

pub sum_step : (l : List ℕ) (i : ℕ) → i < length l → sum (take (i + 1) l) ≡ sum (take i l) + get_or l i 0
sum_step l i h = rw (add-one i) (sum-suc l i h)

pub sum-within : (l : List ℕ) (i : ℕ) → sum (take i l) + get_or l i 0 ≤ sum l
unfolding sum
sum-within [] zero = omega arith
sum-within [] (suc i) = omega arith
sum-within (n ∷ l) zero = omega arith
sum-within (n ∷ l) (suc i) = omega (arith, sum-within l i)

-- one number more
pub range-more : (from count : ℕ) → range from (suc count) ≡ range from count ++ (from + count) ∷ []
unfolding range
range-more from zero = rw (add-zero from)
range-more from (suc count) = ap (λ (l : List ℕ). from ∷ l) (range-more (from + 1) count ∙ ap (λ (n : ℕ). range (from + 1) count ++ n ∷ []) (omega arith))

pub range-step : (from count : ℕ) → range from (count + 1) ≡ range from count ++ (from + count) ∷ []
range-step from count = rw (add-one count) (range-more from count)

pub select-append : {A : Type 0} (test : A → Bool) (k l : List A) → select test (k ++ l) ≡ select test k ++ select test l
unfolding select
select-append test [] l = refl
select-append test (a ∷ k) l = go (test a) (select-append test k l) where
  go : (t : Bool) → select test (k ++ l) ≡ select test k ++ select test l → cons_if t a (select test (k ++ l)) ≡ cons_if t a (select test k) ++ select test l
  go true e = ap (λ r. a ∷ r) e
  go false e = e

pub select-step : (test : ℕ → Bool) (n : ℕ) → select test (up_to (n + 1)) ≡ select test (up_to n) ++ cond (test n) (n ∷ []) []
unfolding select
select-step test n = ap (select test) (range-step 0 n) ∙ select-append test (up_to n) ((0 + n) ∷ []) ∙ rw here (ap (λ (l : List ℕ). select test (up_to n) ++ l) (go (test n))) where
  here : 0 + n ≡ n
  here = omega arith

  go : (t : Bool) → cons_if t n [] ≡ cond t (n ∷ []) []
  go true = refl
  go false = refl

pub count-append : {A : Type 0} (test : A → Bool) (k l : List A) → count test (k ++ l) ≡ count test k + count test l
count-append test k l = ap length (select-append test k l) ∙ length-append (select test k) (select test l)

-- a test of one number more
module _ (test : ℕ → Bool) (n : ℕ) where
  pub any-more : any test (up_to (n + 1)) ≡ any test (up_to n) || test n
  unfolding any
  any-more = ap (any test) (range-step 0 n) ∙ any_append test (up_to n) ((0 + n) ∷ []) ∙ rw (zero-add n, or-false)

  pub all_more : all test (up_to (n + 1)) ≡ all test (up_to n) && test n
  unfolding all
  all_more = ap (all test) (range-step 0 n) ∙ all_append test (up_to n) ((0 + n) ∷ []) ∙ rw (zero-add n, and-true)

-- ---- a search by position, from what it finds
module _ {A : Type 0} (test : A → Bool) (l : List A) (d : A) where
  pub first-at : (i : ℕ) → i < length l → test (get_or l i d) ≡ true → ((j : ℕ) → j < i → test (get_or l j d) ≡ false) → first_at test 0 l ≡ some i
  first-at i h here before = go (first_at test 0 l) refl where
    go : (o : Option ℕ) → first_at test 0 l ≡ o → first_at test 0 l ≡ some i
    go none e = absurd (true-not-false (sym here ∙ first_at-none test 0 l e (get_or-mem l i d h)))
    go (some place) e =
        let found = first_at-some test 0 l place e in
        ⊎_elim
        (λ (low : i ≤ found.index).
        ⊎_elim (λ (q : i ≡ found.index). e ∙ ap some (let w : place ≡ i = omega (arith, found.placed) in w))
        (λ (high : i < found.index). absurd (true-not-false (sym here ∙ found.before i d high))) (eq-or-lt_of_le low))
        (λ (low : found.index < i). absurd (true-not-false (sym (found.found d) ∙ before found.index low)))
        (le-or-lt i found.index)

  pub first-nowhere : ((j : ℕ) → j < length l → test (get_or l j d) ≡ false) → first_at test 0 l ≡ none
  first-nowhere all = go (first_at test 0 l) refl where
    go : (o : Option ℕ) → first_at test 0 l ≡ o → first_at test 0 l ≡ none
    go none e = e
    go (some place) e =
        let found = first_at-some test 0 l place e in
        absurd (true-not-false (sym (found.found d) ∙ all found.index found.inside))
