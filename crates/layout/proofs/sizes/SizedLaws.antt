-- Laws of the sizes of a layout.
use Prim.Native.Nat.{ℕ, ◌*◌, ◌≤◌}
use mathlib.Core.Path.{◌≡◌, refl}
use mathlib.Core.List.{List, [], ◌∷◌, Memᴰ}
use native.Mathlib.Nat.{mul-suc}
use native.Mathlib.Omega.{arith}
use lib.ListN.{length}
use mir.Syntax.{w64}
use mir.Val.{Fits}
use Rattle.seq.specs.Lists.{sum}
use Rattle.grid.specs.Values.{Rect}
use Rattle.representation.proofs.RectsLaws.{length-rects}
use Rattle.grid.specs.Layout.{inner_count}
use Rattle.representation.specs.LayoutEntries.{Inside}
use Rattle.representation.specs.Traced.{rects_held}
use Rattle.representation.specs.declared.rects.Rects.{Rects}

-- rectangles have few inner lines
inner-small : (rs : List Rect) → ((r : Rect) → Memᴰ r rs → Inside 128 128 r) → inner_count rs ≤ 128 * length rs
unfolding sum
inner-small [] all = omega arith
inner-small (r ∷ rs) all =
    omega (arith, mul-suc 128 (length rs), (all r (Memᴰ.head refl)).tall, inner-small rs (λ q m. all q (Memᴰ.tail m)))

pub inner_count-fits : (rects : Rects) → ((r : Rect) → Memᴰ r (rects_held rects) → Inside 128 128 r) → (m : ℕ) → m ≡ inner_count (rects_held rects) → Fits w64 (2 * m)
inner_count-fits rects inside m counted =
    record { fits = omega (arith, counted, inner-small (rects_held rects) inside, length-rects rects.count rects.array.now, rects.few) }
