-- What holds of the rectangles that an array holds.
use Prim.Native.Nat.{ℕ, ◌+◌, ◌*◌, ◌<◌}
use mathlib.Core.Path.{◌≡◌, ap, sym, subst}
use mathlib.Core.List.{Memᴰ}
use native.Mathlib.Omega.{arith}
use Rattle.grid.specs.Values as grid
use Rattle.representation.specs.Arrays.{rect_in}
use Rattle.representation.specs.Lent.{rect_of}
use Rattle.representation.specs.LayoutEntries.{Inside}
use Rattle.representation.specs.Traced.{rects_held}
use Rattle.representation.specs.declared.rect.Rect.{Rect}
use Rattle.representation.specs.declared.rects.Rects.{Rects}
use Rattle.representation.proofs.HeldLaws.{rect-holds}

module _ (rects : Rects) (k : ℕ) (h : k < rects.count) (r : Rect) (e : rect_of r ≡ rect_in rects.array.now k) where
  pub rect_low : (r.top < 128) × (r.left.0 < 128) × (r.bottom < 128) × (r.right.0 < 128)
  rect_low = (
    rw (ap (λ (q : grid.Rect). q.top) e) (rects.low (4 * k) (omega arith)),
    rw (ap (λ (q : grid.Rect). q.left) e) (rects.low (4 * k + 1) (omega arith)),
    rw (ap (λ (q : grid.Rect). q.bottom) e) (rects.low (4 * k + 2) (omega arith)),
    rw (ap (λ (q : grid.Rect). q.right) e) (rects.low (4 * k + 3) (omega arith)),
  )

  pub rect_inside : ((r : grid.Rect) → Memᴰ r (rects_held rects) → Inside 128 128 r) → Inside 128 128 (rect_of r)
  rect_inside inside = subst (Inside 128 128) (sym e) (rect-holds (Inside 128 128) rects.array.now rects.count k h inside)
