-- Laws of where Foot starts.
use Prim.Native.Nat.{ℕ, suc, ◌-◌, ◌≤◌, ◌<◌}
use mathlib.Core.Path.{◌≡◌, refl}
use mathlib.Core.List.{List, [], ◌∷◌}
use native.Mathlib.Omega.{arith}
use lib.Dec.{eqb}
use lib.ListN.{length, get_or}
use borrow.Author.Tests.{eq-eqb, ne_eqb}
use Rattle.seq.specs.Lists.{some_if, or_default}
use Rattle.grid.specs.Layout.{last_but_one}

-- ---- where Foot starts
last-two : (last : ℕ) (l : List ℕ) → 2 ≤ length l → last_but_one last l ≡ some_if (eqb (get_or l (length l - 1) 0) last) (get_or l (length l - 2) 0)
unfolding last_but_one
last-two last [] h = absurd (omega arith)
last-two last (a ∷ []) h = absurd (omega arith)
last-two last (a ∷ b ∷ []) h = refl
last-two last (a ∷ b ∷ c ∷ l) h =
    let e : length (a ∷ b ∷ c ∷ l) - 1 ≡ suc (length (b ∷ c ∷ l) - 1) = omega arith in
    let f : length (a ∷ b ∷ c ∷ l) - 2 ≡ suc (length (b ∷ c ∷ l) - 2) = omega arith in
    rw (e, f) (last-two last (b ∷ c ∷ l) (omega arith))

module _ (separators : List ℕ) (height : ℕ) where
  pub foot_start-few : length separators < 2 → 128 ≡ or_default 128 (last_but_one (height - 1) separators)
  unfolding last_but_one
  foot_start-few = go separators where
    go : (l : List ℕ) → length l < 2 → 128 ≡ or_default 128 (last_but_one (height - 1) l)
    go [] h = refl
    go (a ∷ []) h = refl
    go (a ∷ b ∷ l) h = absurd (omega arith)

  module _ (some : 2 ≤ length separators) where
    pub foot_start-found : (foot last : ℕ) → foot ≡ get_or separators (length separators - 2) 0 → last ≡ get_or separators (length separators - 1) 0 → last ≡ height - 1
        → foot ≡ or_default 128 (last_but_one (height - 1) separators)
    foot_start-found foot last f l e = rw (last-two (height - 1) separators some, ← l, eq-eqb last (height - 1) e) f

    pub foot_start-not-last : (last : ℕ) → last ≡ get_or separators (length separators - 1) 0 → (last ≡ height - 1 → ⊥)
        → 128 ≡ or_default 128 (last_but_one (height - 1) separators)
    foot_start-not-last last l e = rw (last-two (height - 1) separators some, ← l, ne_eqb last (height - 1) e)
