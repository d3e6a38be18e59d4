-- Laws of the entries of an array: every nth, and rectangles of four.
use Prim.Native.Nat.{ℕ, zero, suc, ◌+◌, ◌*◌, ◌<◌}
use mathlib.Core.Path.{◌≡◌, refl, sym, ap, ◌∙◌}
use mathlib.Core.Bool.{◌||◌}
use mathlib.Core.List.{List, [], ◌∷◌, ◌++◌}
use native.Mathlib.Omega.{arith}
use native.Mathlib.Numerals.{add-one}
use native.Mathlib.Nat.{add-zero}
use lib.Dec.{eqb}
use lib.ListN.{length, drop, get_or}
use lib.Seq.{get_or-drop, drop-drop}
use Rattle.seq.specs.Lists.{any}
use Rattle.grid.specs.Values.{Rect}
use Rattle.grid.specs.Flat.{every_nth}
use Rattle.representation.specs.Arrays.{rects_of, rect_in}
use Rattle.seq.proofs.Walks.{or-false, or-middle, any_append}

-- one entry more
every_nth-more : (n : ℕ) (array : List ℕ) → every_nth 4 (suc n) array ≡ every_nth 4 n array ++ get_or array (4 * n) 0 ∷ []
unfolding every_nth
every_nth-more zero array = refl
every_nth-more (suc n) array =
    let e : 4 * suc n ≡ 4 + 4 * n = omega arith in
    rw (e, ← get_or-drop 4 array (4 * n) 0) (ap (λ (l : List ℕ). get_or array 0 0 ∷ l) (every_nth-more n (drop 4 array)))

pub any-every_nth : (x k : ℕ) (array : List ℕ) → any (eqb x) (every_nth 4 (k + 1) array) ≡ any (eqb x) (every_nth 4 k array) || eqb x (get_or array (4 * k) 0)
unfolding any
any-every_nth x k array =
    rw (add-one k, every_nth-more k array) (any_append (eqb x) (every_nth 4 k array) (get_or array (4 * k) 0 ∷ []) ∙ rw or-false)

-- an edge of a rectangle stands at one of two places of its four
module _ (low high : Rect → ℕ) (i j : ℕ)
    (low_at : (a : List ℕ) → low (record { top = get_or a 0 0; left = get_or a 1 0; bottom = get_or a 2 0; right = get_or a 3 0 }) ≡ get_or a i 0)
    (high_at : (a : List ℕ) → high (record { top = get_or a 0 0; left = get_or a 1 0; bottom = get_or a 2 0; right = get_or a 3 0 }) ≡ get_or a j 0) where
  pub any-edge : (x n : ℕ) (rects : List ℕ)
      → any (eqb x) (every_nth 4 n (drop i rects) ++ every_nth 4 n (drop j rects)) ≡ any (λ (r : Rect). eqb x (low r) || eqb x (high r)) (rects_of n rects)
  unfolding every_nth rects_of any
  any-edge x zero rects = refl
  any-edge x (suc n) rects =
      let later = sym (any_append (eqb x) (every_nth 4 n (drop i (drop 4 rects))) (every_nth 4 n (drop j (drop 4 rects)))) ∙ any-edge x n (drop 4 rects) in
      any_append (eqb x) (every_nth 4 (suc n) (drop i rects)) (every_nth 4 (suc n) (drop j rects))
      ∙ rw (low_at rects, high_at rects, ← later, at i, at j, next i, next j)
      (or-middle (eqb x (get_or rects i 0)) (any (eqb x) (every_nth 4 n (drop i (drop 4 rects)))) (eqb x (get_or rects j 0)) (any (eqb x) (every_nth 4 n (drop j (drop 4 rects))))) where
        at : (i : ℕ) → get_or (drop i rects) 0 0 ≡ get_or rects i 0
        at i = get_or-drop i rects 0 0 ∙ rw (add-zero i)

        next : (i : ℕ) → drop 4 (drop i rects) ≡ drop i (drop 4 rects)
        next i = let e : i + 4 ≡ 4 + i = omega arith in drop-drop 4 i rects ∙ rw e (sym (drop-drop i 4 rects))

-- ---- rectangles and neighbouring lines by their number
pub length-rects : (n : ℕ) (rects : List ℕ) → length (rects_of n rects) ≡ n
unfolding rects_of
length-rects zero rects = refl
length-rects (suc n) rects = ap suc (length-rects n (drop 4 rects))

pub get_or-rects : (n k : ℕ) (rects : List ℕ) (d : Rect) → k < n → get_or (rects_of n rects) k d ≡ rect_in rects k
unfolding rects_of
get_or-rects zero k rects d h = absurd (omega arith)
get_or-rects (suc n) zero rects d h = refl
get_or-rects (suc n) (suc k) rects d h =
    let e : 4 * suc k ≡ 4 + 4 * k = omega arith in
    let e₁ : 4 * suc k + 1 ≡ 4 + (4 * k + 1) = omega arith in
    let e₂ : 4 * suc k + 2 ≡ 4 + (4 * k + 2) = omega arith in
    let e₃ : 4 * suc k + 3 ≡ 4 + (4 * k + 3) = omega arith in
    get_or-rects n k (drop 4 rects) d (omega arith)
    ∙ rw (e₁, e₂, e₃, e, get_or-drop 4 rects (4 * k) 0, get_or-drop 4 rects (4 * k + 1) 0, get_or-drop 4 rects (4 * k + 2) 0, get_or-drop 4 rects (4 * k + 3) 0)
