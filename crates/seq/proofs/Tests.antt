-- Laws of tests: what a passed `&&` or `||` tells, and a test as the number 0 or 1.
use Prim.Native.Nat.{ℕ, ◌≤◌, ◌<◌}
use mathlib.Core.Path.{◌≡◌, refl, sym}
use mathlib.Core.Bool.{Bool, true, false, ◌&&◌, ◌||◌, cond}
use mathlib.Core.Logic.{◌⊎◌, inl, inr, ⊎_elim}
use native.Mathlib.Omega.{arith}
use lib.Dec.{eqb, leb, ltb}
use borrow.Author.Tests.{leb-true, leb-false, ltb-true, eqb-true, lt-ltb, eq-eqb}

pub true-not-false : true ≡ false → ⊥
true-not-false e = let z : ◌≡◌ {A = ℕ} 0 1 = cc in omega arith

-- a test passes or fails
pub bool_cases : (t : Bool) → (t ≡ true) ⊎ (t ≡ false)
bool_cases true = inl refl
bool_cases false = inr refl

-- two tests that pass together are the same
pub bool_same : (s t : Bool) → (s ≡ true → t ≡ true) → (t ≡ true → s ≡ true) → s ≡ t
bool_same true t there back = sym (there refl)
bool_same false true there back = back refl
bool_same false false there back = refl

-- what holds of both holds of the one that a test picks
pub cond_either : {A : Type 0} (P : A → Type 0) (t : Bool) {a b : A} → P a → P b → P (cond t a b)
cond_either P true p q = p
cond_either P false p q = q

-- the one that it picks
pub cond-true : {A : Type 0} (t : Bool) (a b : A) → t ≡ true → a ≡ cond t a b
cond-true t a b e = rw e

pub cond-false : {A : Type 0} (t : Bool) (a b : A) → t ≡ false → b ≡ cond t a b
cond-false t a b e = rw e

pub and-false : (t : Bool) → t && false ≡ false
and-false true = refl
and-false false = refl

pub and-true : (t : Bool) → t && true ≡ t
and-true true = refl
and-true false = refl

pub and_assoc : (s t u : Bool) → s && t && u ≡ s && (t && u)
and_assoc true t u = refl
and_assoc false t u = refl

pub both_true : (t u : Bool) → t && u ≡ true → (t ≡ true) × (u ≡ true)
both_true true u e = (refl, e)
both_true false u e = absurd (true-not-false (sym e))

pub and_left : (t u : Bool) → t && u ≡ true → t ≡ true
and_left t u e = (both_true t u e).0

pub and_right : (t u : Bool) → t && u ≡ true → u ≡ true
and_right t u e = (both_true t u e).1

pub and_intro : {t u : Bool} → t ≡ true → u ≡ true → t && u ≡ true
and_intro {t} {u} e f = rw (e, f)

pub or_cases : (t u : Bool) → t || u ≡ true → (t ≡ true) ⊎ (u ≡ true)
or_cases true u e = inl refl
or_cases false u e = inr e

pub or-neither : (t u : Bool) → t || u ≡ false → (t ≡ false) × (u ≡ false)
or-neither true u e = absurd (true-not-false e)
or-neither false u e = (refl, e)

pub or-none : {t u : Bool} → t ≡ false → u ≡ false → t || u ≡ false
or-none e f = rw (e, f)

pub or_left : {t : Bool} (u : Bool) → t ≡ true → t || u ≡ true
or_left {t} u e = rw e

pub or_right : (t : Bool) {u : Bool} → u ≡ true → t || u ≡ true
or_right true e = refl
or_right false e = e

pub bool-refused : (t : Bool) → (t ≡ true → ⊥) → t ≡ false
bool-refused true not-passed = absurd (not-passed refl)
bool-refused false not-passed = refl

pub le-or-lt : (a b : ℕ) → (a ≤ b) ⊎ (b < a)
le-or-lt a b = go (leb a b) refl where
  go : (t : Bool) → leb a b ≡ t → (a ≤ b) ⊎ (b < a)
  go true e = inl (leb-true a b e)
  go false e = inr (leb-false a b e)

-- 1 where the test passes
abbrev pub bit : Bool → ℕ
bit true = 1
bit false = 0

pub bit-true : {t : Bool} → t ≡ true → bit t ≡ 1
bit-true e = rw e

pub bit-false : {t : Bool} → t ≡ false → bit t ≡ 0
bit-false e = rw e

pub bit-one : (t : Bool) → bit t ≤ 1
bit-one true = omega arith
bit-one false = omega arith

-- ---- the order of two pairs of numbers by the first, then the second
module _ (a b c d : ℕ) where
  pub lex-above : a < b → ltb a b || (eqb a b && ltb c d) ≡ true
  lex-above h = or_left (eqb a b && ltb c d) (lt-ltb a b h)

  pub lex-beside : a ≡ b → c < d → ltb a b || (eqb a b && ltb c d) ≡ true
  lex-beside e h = or_right (ltb a b) (and_intro (eq-eqb a b e) (lt-ltb c d h))

  pub lex-cases : ltb a b || (eqb a b && ltb c d) ≡ true → (a < b) ⊎ ((a ≡ b) × (c < d))
  lex-cases e =
      ⊎_elim (λ (h : ltb a b ≡ true). inl (ltb-true a b h))
      (λ (h : eqb a b && ltb c d ≡ true). inr (eqb-true a b (and_left (eqb a b) (ltb c d) h), ltb-true c d (and_right (eqb a b) (ltb c d) h)))
      (or_cases (ltb a b) (eqb a b && ltb c d) e)

pub lex-trans : (a b c x y z : ℕ) → ltb a b || (eqb a b && ltb x y) ≡ true → ltb b c || (eqb b c && ltb y z) ≡ true → ltb a c || (eqb a c && ltb x z) ≡ true
lex-trans a b c x y z e f = go (lex-cases a b x y e) (lex-cases b c y z f) where
  go : (a < b) ⊎ ((a ≡ b) × (x < y)) → (b < c) ⊎ ((b ≡ c) × (y < z)) → ltb a c || (eqb a c && ltb x z) ≡ true
  go (inl h) (inl k) = lex-above a c x z (omega arith)
  go (inl h) (inr k) = lex-above a c x z (omega arith)
  go (inr h) (inl k) = lex-above a c x z (omega arith)
  go (inr h) (inr k) = lex-beside a c x z (omega arith) (omega arith)
