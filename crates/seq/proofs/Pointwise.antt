-- Lists of numbers, each at most the one in its place of another list: `◌≼◌`. Others cite `pointwise-length` and `pointwise-at`,
-- and, for a list of which one number grows, `pointwise-set`.
use Prim.Native.Nat.{ℕ, zero, suc, ◌≤◌}
use mathlib.Core.Path.{◌≡◌, refl, ap}
use mathlib.Core.List.{List, [], ◌∷◌}
use native.Mathlib.Omega.{arith}
use native.Mathlib.Nat.{le_refl, le_trans}
use lib.ListN.{length, get_or, set, take, drop}
use Rattle.seq.specs.Lists.{sum}

infix 50 ◌≼◌
pub data ◌≼◌ : List ℕ → List ℕ → Type 0 where
  done : [] ≼ []
  more : {x y : ℕ} {xs ys : List ℕ} → x ≤ y → xs ≼ ys → (x ∷ xs) ≼ (y ∷ ys)

pub pointwise-refl : (l : List ℕ) → l ≼ l
pointwise-refl [] = done
pointwise-refl (x ∷ xs) = more (le_refl x) (pointwise-refl xs)

pub pointwise-trans : {a b c : List ℕ} → a ≼ b → b ≼ c → a ≼ c
pointwise-trans done done = done
pointwise-trans (more h p) (more k q) = more (le_trans h k) (pointwise-trans p q)

pub pointwise-set : (l : List ℕ) (i v : ℕ) → get_or l i 0 ≤ v → l ≼ set l i v
pointwise-set [] i v h = done
pointwise-set (x ∷ xs) zero v h = more h (pointwise-refl xs)
pointwise-set (x ∷ xs) (suc i) v h = more (le_refl x) (pointwise-set xs i v h)

pub pointwise-take : (n : ℕ) {a b : List ℕ} → a ≼ b → take n a ≼ take n b
pointwise-take zero p = done
pointwise-take (suc n) done = done
pointwise-take (suc n) (more h p) = more h (pointwise-take n p)

pub pointwise-drop : (n : ℕ) {a b : List ℕ} → a ≼ b → drop n a ≼ drop n b
pointwise-drop zero p = p
pointwise-drop (suc n) done = done
pointwise-drop (suc n) (more h p) = pointwise-drop n p

pub pointwise-sum : {a b : List ℕ} → a ≼ b → sum a ≤ sum b
unfolding sum
pointwise-sum done = le_refl 0
pointwise-sum (more h p) = omega (arith, pointwise-sum p)

pub pointwise-length : {a b : List ℕ} → a ≼ b → length a ≡ length b
pointwise-length done = refl
pointwise-length (more h p) = ap suc (pointwise-length p)

pub pointwise-at : {a b : List ℕ} → a ≼ b → (i : ℕ) → get_or a i 0 ≤ get_or b i 0
pointwise-at done i = le_refl _
pointwise-at (more h p) zero = h
pointwise-at (more h p) (suc i) = pointwise-at p i
