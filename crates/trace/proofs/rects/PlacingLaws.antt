-- Laws of rectangles in an array.
use Prim.Native.Nat.{ℕ, zero, suc, ◌+◌, ◌*◌, ◌<◌}
use mathlib.Core.Path.{◌≡◌, refl, sym, ap, ap₂, ◌∙◌}
use mathlib.Core.List.{List, [], ◌∷◌, ◌++◌}
use native.Mathlib.Numerals.{add-one}
use native.Mathlib.Omega.{arith}
use lib.ListN.{length, get_or, drop, set, length-set}
use lib.Seq.{get_or-drop, get_or-set_same, get_or-set_other}
use Rattle.grid.specs.Values.{Rect}
use Rattle.representation.specs.Arrays.{rects_of}
use Rattle.grid.proofs.RectangleLaws.{rect}
use Rattle.trace.specs.Placing.{with_rect}

-- rectangle n of an array
abbrev rect_at : List ℕ → ℕ → Rect
rect_at array n = rect (get_or array (n * 4) 0) (get_or array (n * 4 + 1) 0) (get_or array (n * 4 + 2) 0) (get_or array (n * 4 + 3) 0)

same-rect : {a b c d e f g h : ℕ} → a ≡ e → b ≡ f → c ≡ g → d ≡ h → rect a b c d ≡ rect e f g h
same-rect p q r s = λ i. rect (p i) (q i) (r i) (s i)

rects-snoc : (n : ℕ) (array : List ℕ) → rects_of (suc n) array ≡ rects_of n array ++ rect_at array n ∷ []
unfolding rects_of
rects-snoc zero array = refl
rects-snoc (suc n) array =
    ap (λ rs. rect_at array 0 ∷ rs) (rects-snoc n (drop 4 array) ∙ ap (λ q. rects_of n (drop 4 array) ++ q ∷ [])
    (same-rect (at (n * 4) (suc n * 4) (omega arith)) (at (n * 4 + 1) (suc n * 4 + 1) (omega arith)) (at (n * 4 + 2) (suc n * 4 + 2) (omega arith))
    (at (n * 4 + 3) (suc n * 4 + 3) (omega arith)))) where
      at : (i j : ℕ) → 4 + i ≡ j → get_or (drop 4 array) i 0 ≡ get_or array j 0
      at i j e = get_or-drop 4 array i 0 ∙ ap (λ (k : ℕ). get_or array k 0) e

rects-same : (n : ℕ) (a b : List ℕ) → ((i : ℕ) → i < n * 4 → get_or a i 0 ≡ get_or b i 0) → rects_of n a ≡ rects_of n b
unfolding rects_of
rects-same zero a b h = refl
rects-same (suc n) a b h =
    ap₂ ◌∷◌ (same-rect (h 0 (omega arith)) (h 1 (omega arith)) (h 2 (omega arith)) (h 3 (omega arith)))
    (rects-same n (drop 4 a) (drop 4 b) (λ i k. get_or-drop 4 a i 0 ∙ h (4 + i) (omega arith) ∙ sym (get_or-drop 4 b i 0)))

module _ (a : List ℕ) (i t l b r : ℕ) (room : i + 3 < length a) where
  abbrev one : List ℕ
  one = set a i t

  abbrev two : List ℕ
  two = set one (i + 1) l

  abbrev three : List ℕ
  three = set two (i + 2) b

  written-before : (j : ℕ) → j < i → get_or (set three (i + 3) r) j 0 ≡ get_or a j 0
  written-before j h =
      get_or-set_other three (i + 3) j r 0 (λ e. omega arith) ∙ get_or-set_other two (i + 2) j b 0 (λ e. omega arith)
      ∙ get_or-set_other one (i + 1) j l 0 (λ e. omega arith) ∙ get_or-set_other a i j t 0 (λ e. omega arith)

  written-top : get_or (set three (i + 3) r) i 0 ≡ t
  written-top =
      get_or-set_other three (i + 3) i r 0 (λ e. omega arith) ∙ get_or-set_other two (i + 2) i b 0 (λ e. omega arith)
      ∙ get_or-set_other one (i + 1) i l 0 (λ e. omega arith) ∙ get_or-set_same a i t 0 (omega arith)

  written-left : get_or (set three (i + 3) r) (i + 1) 0 ≡ l
  written-left =
      get_or-set_other three (i + 3) (i + 1) r 0 (λ e. omega arith) ∙ get_or-set_other two (i + 2) (i + 1) b 0 (λ e. omega arith)
      ∙ get_or-set_same one (i + 1) l 0 (simp length-set (omega arith))

  written-bottom : get_or (set three (i + 3) r) (i + 2) 0 ≡ b
  written-bottom = get_or-set_other three (i + 3) (i + 2) r 0 (λ e. omega arith) ∙ get_or-set_same two (i + 2) b 0 (simp length-set (omega arith))

  written-right : get_or (set three (i + 3) r) (i + 3) 0 ≡ r
  written-right = get_or-set_same three (i + 3) r 0 (simp length-set (omega arith))

-- rectangle n written after the n before it
pub with-rect : (a : List ℕ) (n : ℕ) (r : Rect) → n * 4 + 3 < length a → rects_of (n + 1) (with_rect a n r) ≡ rects_of n a ++ r ∷ []
with-rect a n r room =
    ap (λ (k : ℕ). rects_of k (with_rect a n r)) (add-one n) ∙ rects-snoc n (with_rect a n r)
    ∙ ap₂ (λ rs q. rs ++ q ∷ []) (rects-same n (with_rect a n r) a (written-before a (n * 4) r.top r.left r.bottom r.right room))
    (same-rect (written-top a (n * 4) r.top r.left r.bottom r.right room) (written-left a (n * 4) r.top r.left r.bottom r.right room)
    (written-bottom a (n * 4) r.top r.left r.bottom r.right room) (written-right a (n * 4) r.top r.left r.bottom r.right room))
