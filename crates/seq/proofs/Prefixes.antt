-- Laws of the first so many of a list.
use Prim.Native.Nat.{ℕ, zero, suc, ◌+◌, ◌≤◌, ◌<◌, min}
use mathlib.Core.Path.{◌≡◌, refl, ap, ◌∙◌}
use mathlib.Core.List.{List, [], ◌∷◌, ◌++◌}
use native.Mathlib.Omega.{arith}
use native.Mathlib.Numerals.{add-one}
use lib.ListN.{length, get_or, take, replicate, length-take}
use lib.Seq.{take-suc}
use Rattle.seq.specs.Lists.{smallest}

pub take-replicate : {A : Type 0} (n m : ℕ) (a : A) → n ≤ m → take n (replicate m a) ≡ replicate n a
take-replicate zero m a h = refl
take-replicate (suc n) zero a h = absurd (omega arith)
take-replicate (suc n) (suc m) a h = ap (λ l. a ∷ l) (take-replicate n m a (omega arith))

-- a list is as long as what was taken from it
pub prefix-long : {A : Type 0} (n : ℕ) (l taken : List A) → take n l ≡ taken → length taken ≡ n → n ≤ length l
prefix-long n l taken e f = let g = ap length e in omega (arith, g, f, length-take n l)

smallest-snoc : (l : List ℕ) (n : ℕ) → 0 < length l → smallest (l ++ n ∷ []) ≡ min (smallest l) n
unfolding smallest
smallest-snoc [] n h = absurd (omega arith)
smallest-snoc (a ∷ []) n h = refl
smallest-snoc (a ∷ b ∷ l) n h = omega (arith, smallest-snoc (b ∷ l) n (omega arith))

-- the smallest of the first, and of one more
pub smallest-one : (s : List ℕ) → 0 < length s → get_or s 0 0 ≡ smallest (take 1 s)
unfolding smallest
smallest-one [] h = absurd (omega arith)
smallest-one (a ∷ s) h = refl

pub smallest-next : (s : List ℕ) (i : ℕ) → 0 < i → i < length s → smallest (take (i + 1) s) ≡ min (smallest (take i s)) (get_or s i 0)
smallest-next s i pos h =
    ap (λ (k : ℕ). smallest (take k s)) (add-one i) ∙ ap smallest (take-suc s i 0 h)
    ∙ smallest-snoc (take i s) (get_or s i 0) (rw length-take (omega arith))
