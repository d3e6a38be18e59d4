-- Laws of a walk along a list: one step of a sum, a search and a selection.
use Prim.Native.Nat.{ℕ, zero, suc, ◌+◌, ◌≤◌, ◌<◌}
use mathlib.Core.Path.{◌≡◌, refl, sym, ap, ◌∙◌}
use mathlib.Core.Bool.{Bool, true, false, ◌&&◌, ◌||◌}
use mathlib.Core.List.{List, [], ◌∷◌, ◌++◌, map, Memᴰ}
use native.Mathlib.Omega.{arith}
use native.Mathlib.Numerals.{add-one}
use lib.Dec.{eqb}
use lib.ListN.{length, take, drop, get_or, drop_of_length-le}
use borrow.Author.Tests.{eqb-true, eqb-false, eq-eqb, ne_eqb}
use lib.Seq.{drop-nil}
use Rattle.seq.specs.Lists.{sum, all, any, select}
use Rattle.seq.proofs.Tests.{and-true, and_assoc}
use Rattle.seq.proofs.ListsLaws.{drop-step}

-- two tests of equal numbers that hold together
pub eqb_same : (a b c d : ℕ) → (a ≡ b → c ≡ d) → (c ≡ d → a ≡ b) → eqb a b ≡ eqb c d
eqb_same a b c d there back = go (eqb a b) refl where
  go : (t : Bool) → eqb a b ≡ t → eqb a b ≡ eqb c d
  go true e = rw e (sym (eq-eqb c d (there (eqb-true a b e))))
  go false e = rw e (sym (ne_eqb c d (λ f. eqb-false a b e (back f))))

pub sum-after : (s : List ℕ) (i : ℕ) → sum (drop i s) ≡ get_or s i 0 + sum (drop (i + 1) s)
unfolding sum
sum-after s i = rw (add-one i) (go s i) where
  go : (s : List ℕ) (i : ℕ) → sum (drop i s) ≡ get_or s i 0 + sum (drop (suc i) s)
  go [] i = rw (drop-nil i) (omega arith)
  go (n ∷ ns) zero = refl
  go (n ∷ ns) (suc i) = go ns i

pub sum-end : (s : List ℕ) (i : ℕ) → length s ≤ i → sum (drop i s) ≡ 0
unfolding sum
sum-end s i h = rw (drop_of_length-le s h)

module _ (test : ℕ → Bool) (s : List ℕ) (i : ℕ) where
  pub any_step : i < length s → any test (drop i s) ≡ test (get_or s i 0) || any test (drop (i + 1) s)
  unfolding any
  any_step h = rw (drop-step s i h)

  pub any-end : length s ≤ i → any test (drop i s) ≡ false
  unfolding any
  any-end h = rw (drop_of_length-le s h)

pub or-middle : (s t u v : Bool) → s || t || (u || v) ≡ s || u || (t || v)
or-middle true t u v = refl
or-middle false true true v = refl
or-middle false true false v = refl
or-middle false false u v = refl

pub or-false : (t : Bool) → t || false ≡ t
or-false true = refl
or-false false = refl

pub or_assoc : (s t u : Bool) → s || t || u ≡ s || (t || u)
or_assoc true t u = refl
or_assoc false t u = refl

module _ {A : Type 0} (test : A → Bool) where
  pub any_append : (s t : List A) → any test (s ++ t) ≡ any test s || any test t
  unfolding any
  any_append [] t = refl
  any_append (a ∷ s) t = rw (any_append s t) (sym (or_assoc (test a) (any test s) (any test t)))

  pub all_append : (s t : List A) → all test (s ++ t) ≡ all test s && all test t
  unfolding all
  all_append [] t = refl
  all_append (a ∷ s) t = rw (all_append s t) (sym (and_assoc (test a) (all test s) (all test t)))

-- a test of each number, so far passed or not
module _ (test : ℕ → Bool) (s : List ℕ) (i : ℕ) (t : Bool) (so_far : all test s ≡ t && all test (drop i s)) where
  pub all-next : (u : Bool) → i < length s → u ≡ test (get_or s i 0) → all test s ≡ (t && u) && all test (drop (i + 1) s)
  unfolding all
  all-next u inside is =
      so_far ∙ ap (λ (l : List ℕ). t && all test l) (drop-step s i inside) ∙ ap (λ (v : Bool). t && (v && all test (drop (i + 1) s))) (sym is)
      ∙ sym (and_assoc t u (all test (drop (i + 1) s)))

  pub all-ends : length s ≤ i → t ≡ all test s
  unfolding all
  all-ends past = sym (so_far ∙ ap (λ (l : List ℕ). t && all test l) (drop_of_length-le s past) ∙ and-true t)

pub select-agree : {A : Type 0} (test other : A → Bool) (l : List A) → ((a : A) → Memᴰ a l → test a ≡ other a) → select test l ≡ select other l
unfolding select
select-agree test other [] h = refl
select-agree test other (a ∷ l) h = rw (h a (Memᴰ.head refl), select-agree test other l (λ b m. h b (Memᴰ.tail m)))

module _ {A : Type 0} (test : A → Bool) where
  pub select-all : (l : List A) → ((a : A) → Memᴰ a l → test a ≡ true) → select test l ≡ l
  unfolding select
  select-all [] h = refl
  select-all (a ∷ l) h = rw (h a (Memᴰ.head refl), select-all l (λ b m. h b (Memᴰ.tail m)))

pub sum_more : {A : Type 0} (f : A → ℕ) (l : List A) (k : ℕ) (d : A) → k < length l → sum (map f (take (k + 1) l)) ≡ sum (map f (take k l)) + f (get_or l k d)
unfolding sum
sum_more {A} f l k d h = rw (add-one k) (go l k h) where
  go : (l : List A) (k : ℕ) → k < length l → sum (map f (take (suc k) l)) ≡ sum (map f (take k l)) + f (get_or l k d)
  go [] k h = absurd (omega arith)
  go (a ∷ l) zero h = omega arith
  go (a ∷ l) (suc k) h = omega (arith, go l k (omega arith))
