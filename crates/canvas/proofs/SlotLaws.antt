-- Laws of a canvas's slots: one write (`code-set`), two of the same byte (`put-twice`, `put_both`), one step more of several
-- (`painted-more`), and a range that ends one later (`inside-next`, `inside-same`).
use Prim.Native.Nat.{ℕ, ◌+◌, ◌*◌, ◌≤◌, ◌<◌}
use mathlib.Core.Path.{◌≡◌, refl, sym, ap, ◌∙◌}
use mathlib.Core.Bool.{Bool, true, false, ◌&&◌, ◌||◌, cond}
use mathlib.Core.List.{List, Memᴰ}
use native.Mathlib.Omega.{arith}
use native.Mathlib.Numerals.{add-one}
use lib.Dec.{eqb, ltb}
use lib.ListN.{length, get_or, set, length-set}
use lib.Seq.{get_or-set_same, get_or-set_other}
use borrow.Author.Tests.{ltb-true, ltb-false, eqb-true, eqb-false, lt-ltb, le-ltb, eq-eqb}
use Rattle.seq.proofs.Tests.{true-not-false, and_left, and_right, and_intro}
use Rattle.grid.specs.Values.{Rect}
use Rattle.grid.specs.LayoutCall.{slot_space}
use Rattle.drawing.specs.Plain.{is_inside}
use Rattle.representation.specs.Arrays.{code_at, rects_of, rect_in}
use Rattle.representation.specs.LayoutEntries.{Inside}
use Rattle.representation.proofs.HeldLaws.{rect-holds}
use Rattle.canvas.specs.Painting.{painted}

-- the slots after a write at line y, column x
pub code-set : (canvas : List ℕ) (at y x w j i : ℕ) → slot_space ≤ length canvas → at ≡ y * 128 + x → y < 128 → x < 128 → i < 128
    → code_at (set canvas at w) j i ≡ cond (eqb j y && eqb i x) w (code_at canvas j i)
code-set canvas at y x w j i room e hy hx hi = go (eqb j y && eqb i x) refl where
  go : (t : Bool) → eqb j y && eqb i x ≡ t → code_at (set canvas at w) j i ≡ cond t w (code_at canvas j i)
  go true t =
      let p : j ≡ y = eqb-true j y (and_left (eqb j y) (eqb i x) t) in
      let q : i ≡ x = eqb-true i x (and_right (eqb j y) (eqb i x) t) in
      let here : j * 128 + i ≡ at = omega arith in
      ap (λ (n : ℕ). get_or (set canvas at w) n 0) here ∙ get_or-set_same canvas at w 0 (omega arith)
  go false t =
      get_or-set_other canvas at (j * 128 + i) w 0
      (λ q. true-not-false (sym (and_intro (eq-eqb j y (omega arith)) (eq-eqb i x (omega arith))) ∙ t))

pub set_room : (canvas : List ℕ) (at w : ℕ) → slot_space ≤ length canvas → slot_space ≤ length (set canvas at w)
set_room canvas at w room = simp length-set room

-- one byte by two tests
pub put-twice : (s t : Bool) (w old : ℕ) → cond t w (cond s w old) ≡ cond (s || t) w old
put-twice true true w old = refl
put-twice true false w old = refl
put-twice false t w old = refl

-- and by two that share a part
pub put_both : (u s t : Bool) (w old : ℕ) → cond (u && t) w (cond (u && s) w old) ≡ cond (u && (s || t)) w old
put_both true s t w old = put-twice s t w old
put_both false s t w old = refl

-- ---- one step more
pub painted-more : (put : ℕ → ℕ → ℕ) (n old : ℕ) → painted put (n + 1) old ≡ put n (painted put n old)
unfolding painted
painted-more put n old = rw (add-one n)

-- what all rectangles do, rectangle k does
pub rect-inside : (rects : List ℕ) (n k : ℕ) → ((r : Rect) → Memᴰ r (rects_of n rects) → Inside 128 128 r) → k < n → Inside 128 128 (rect_in rects k)
rect-inside rects n k all h = rect-holds (Inside 128 128) rects n k h all

-- ---- a range that ends one later
pub inside-next : (a b : ℕ) → a < b → is_inside a (b + 1) b ≡ true
inside-next a b h = rw (lt-ltb a b h, lt-ltb b (b + 1) (omega arith))

pub inside-not : (a b : ℕ) → is_inside a b b ≡ false
inside-not a b = go (ltb a b) where
  go : (t : Bool) → t && ltb b b ≡ false
  go true = le-ltb b b (omega arith)
  go false = refl

pub inside-same : (a b n : ℕ) → eqb n b ≡ false → is_inside a (b + 1) n ≡ is_inside a b n
inside-same a b n e = ap (λ (t : Bool). ltb a n && t) (go (ltb n b) refl) where
  go : (t : Bool) → ltb n b ≡ t → ltb n (b + 1) ≡ ltb n b
  go true h = rw h (lt-ltb n (b + 1) (omega (arith, ltb-true n b h)))
  go false h = rw h (le-ltb n (b + 1) (let k = ltb-false n b h in let d = eqb-false n b e in omega arith))

pub inside-empty : (a n : ℕ) → is_inside a (a + 1) n ≡ false
inside-empty a n = go (ltb a n) refl where
  go : (t : Bool) → ltb a n ≡ t → t && ltb n (a + 1) ≡ false
  go true h = le-ltb n (a + 1) (omega (arith, ltb-true a n h))
  go false h = refl
