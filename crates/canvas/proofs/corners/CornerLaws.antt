-- The corners of one cell, and of the first cells.
use Prim.Native.Nat.{ℕ, ◌+◌, ◌*◌, ◌≤◌, ◌<◌}
use mathlib.Core.Path.{◌≡◌, refl, ap, ◌∙◌}
use mathlib.Core.Bool.{Bool, true, false, ◌&&◌, ◌||◌, cond}
use mathlib.Core.List.{List}
use native.Mathlib.Omega.{arith}
use lib.Dec.{eqb}
use lib.ListN.{length, set}
use Rattle.seq.specs.Lists.{range, any}
use Rattle.seq.proofs.Gathered.{any-more}
use Rattle.text.specs.Characters.{plus}
use Rattle.grid.specs.LayoutCall.{slot_space}
use Rattle.representation.specs.Arrays.{code_at, rect_in}
use Rattle.representation.specs.LayoutEntries.{Inside}
use Rattle.representation.specs.Lent.{rect_of}
use Rattle.representation.specs.declared.rect.Rect.{Rect}
use Rattle.canvas.specs.Painting.{Drawn, corner_of, cornered, all_cornered}
use Rattle.canvas.proofs.SlotLaws.{code-set, set_room, put-twice, put_both}

-- ---- one cell
-- the same for both lines
both-lines : (a b u : Bool) (w old : ℕ) → cond (b && u) w (cond (a && u) w old) ≡ cond ((a || b) && u) w old
both-lines true true true w old = refl
both-lines true true false w old = refl
both-lines true false u w old = refl
both-lines false b u w old = refl

module _ (rect : Rect) (canvas : List ℕ) (r : Inside 128 128 (rect_of rect)) (room : slot_space ≤ length canvas) where
  abbrev top : ℕ
  top = rect.top

  abbrev left : ℕ
  left = rect.left.0

  abbrev bottom : ℕ
  bottom = rect.bottom

  abbrev right : ℕ
  right = rect.right.0

  abbrev one : List ℕ
  one = set canvas (top * 128 + left) plus

  abbrev two : List ℕ
  two = set one (top * 128 + right) plus

  low : (top < 128) × (bottom < 128)
  low = (omega (arith, r.down, r.tall), r.tall)

  near : (left < 128) × (right < 128)
  near = (omega (arith, r.across, r.wide), r.wide)

  -- the two of one line
  line-corners : (before : List ℕ) (y : ℕ) → slot_space ≤ length before → y < 128 → (j i : ℕ) → i < 128
      → code_at (set (set before (y * 128 + left) plus) (y * 128 + right) plus) j i ≡ cond (eqb j y && (eqb i left || eqb i right)) plus (code_at before j i)
  line-corners before y space u j i hi =
      code-set (set before (y * 128 + left) plus) (y * 128 + right) y right plus j i (set_room before (y * 128 + left) plus space) refl u near.1 hi
      ∙ ap (cond (eqb j y && eqb i right) plus) (code-set before (y * 128 + left) y left plus j i space refl u near.0 hi)
      ∙ put_both (eqb j y) (eqb i left) (eqb i right) plus (code_at before j i)

  pub corners-put : Drawn (cornered (rect_of rect)) canvas (set (set two (bottom * 128 + left) plus) (bottom * 128 + right) plus)
  unfolding cornered
  corners-put =
      record {
        slot = λ j i hj hi.
            line-corners two bottom (set_room one (top * 128 + right) plus (set_room canvas (top * 128 + left) plus room)) low.1 j i hi
            ∙ ap (cond (eqb j bottom && (eqb i left || eqb i right)) plus) (line-corners canvas top room low.0 j i hi)
            ∙ both-lines (eqb j top) (eqb j bottom) (eqb i left || eqb i right) plus (code_at canvas j i);
      }

-- ---- all cells
pub corners-start : (rects canvas : List ℕ) → Drawn (all_cornered rects 0) canvas canvas
unfolding all_cornered range any
corners-start rects canvas = record { slot = λ j i hj hi. refl }

pub corners-next : (rects : List ℕ) (k : ℕ) (canvas₀ canvas after : List ℕ) → Drawn (all_cornered rects k) canvas₀ canvas
    → Drawn (cornered (rect_in rects k)) canvas after → Drawn (all_cornered rects (k + 1)) canvas₀ after
unfolding cornered all_cornered
corners-next rects k canvas₀ canvas after d e =
    record {
      slot = λ j i hj hi.
          let test : ℕ → Bool = λ k. corner_of (rect_in rects k) j i in
          e.slot j i hj hi ∙ ap (cornered (rect_in rects k) j i) (d.slot j i hj hi)
          ∙ put-twice (any test (range 0 k)) (test k) plus (code_at canvas₀ j i) ∙ rw (any-more test k);
    }
