-- The lengths of the drawn lines: whether one is too large, and writing them.
use Prim.Native.Nat.{ℕ, ◌+◌, ◌^◌, ◌≤◌, ◌<◌}
use mathlib.Core.Path.{◌≡◌, refl, sym, ap, ◌∙◌}
use mathlib.Core.Bool.{Bool, false}
use mathlib.Core.List.{List, [], ◌∷◌, ◌++◌}
use native.Mathlib.Numerals.{add-one}
use native.Mathlib.Omega.{arith}
use lib.Dec.{ltb}
use lib.ListN.{length, get_or, take, drop, set, replicate, length-append, length-replicate}
use lib.Seq.{take-suc, get_or-take, length-take-le}
use borrow.Author.Tests.{ltb-false}
use Rattle.seq.specs.Lists.{any}
use Rattle.seq.proofs.Positions.{get_or-mem}
use Rattle.seq.proofs.Searches.{any_none}
use Rattle.grid.specs.Answer.{over}
use Rattle.writer.specs.Writing.{put_down}
use Rattle.writer.proofs.WritingLaws.{put_down-length, put_down-then, put_down-one, put_down-over}

-- a line over its limit
abbrev pub long : ℕ → Bool
long n = ltb 512 n

module _ (l : List ℕ) (height : ℕ) (low : height ≤ 128) (full : length l ≡ 128) where
  room : height ≤ length l
  room = omega arith

  pub length-fits : (y : ℕ) → any long (take height l) ≡ false → y < height → get_or l y 0 < 2 ^ 16
  length-fits y none u =
      let here = get_or-mem (take height l) y 0 (omega (arith, length-take-le height l room)) in
      omega (arith, ltb-false 512 (get_or (take height l) y 0) (any_none long none here), get_or-take height l y 0 u)

-- ---- one entry after another
over-next : (d s : List ℕ) (v : ℕ) → length s < length d → set (over s d) (length s) v ≡ over (s ++ v ∷ []) d
over-next d s v h =
    let e : 0 + length s ≡ length s = omega arith in
    ap (λ (l : List ℕ). set l (length s) v) (sym (put_down-over d s (omega arith)))
    ∙ put_down-one (put_down d 0 s) (length s) v (omega (arith, put_down-length d 0 s))
    ∙ ap (λ (k : ℕ). put_down (put_down d 0 s) k (v ∷ [])) (sym e) ∙ put_down-then d 0 s (v ∷ []) ∙ put_down-over d (s ++ v ∷ []) (omega (arith, length-append s (v ∷ [])))

module _ (height : ℕ) where
  pub lengths-next : (l d out : List ℕ) (y : ℕ) → y < height → height ≤ 128 → length l ≡ 128 → height ≤ length d → out ≡ over (take y l) d
      → set out y (get_or l y 0) ≡ over (take (y + 1) l) d
  lengths-next l d out y u low full space so_far =
      let size = length-take-le y l (omega arith) in
      let more : take (y + 1) l ≡ take y l ++ get_or l y 0 ∷ [] = rw add-one (take-suc l y 0 (omega arith)) in
      rw (so_far, more) (ap (λ (k : ℕ). set (over (take y l) d) k (get_or l y 0)) (sym size) ∙ over-next d (take y l) (get_or l y 0) (omega arith))

  pub sizes-written : (l d out : List ℕ) (y : ℕ) → y ≤ height → height ≤ y → out ≡ over (take y l) d → out ≡ over (take height l) d
  sizes-written l d out y u w so_far = let e : y ≡ height = omega arith in rw e at so_far

  pub columns-filled : (origin : ℕ) (d filled : List ℕ) → height ≤ length d → filled ≡ replicate (length (take height d)) origin
      → filled ++ drop height d ≡ over (replicate height origin) d
  columns-filled origin d filled space all =
      let same : filled ≡ replicate height origin = rw (length-take-le height d space) at all in
      rw (same, length-replicate height origin) refl
