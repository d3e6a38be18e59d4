-- Laws of the lines and rectangles that arrays hold, one after the other.
use Prim.Native.Nat.{ℕ, ◌+◌, ◌-◌, ◌≤◌, ◌<◌}
use mathlib.Core.Path.{◌≡◌, refl, ◌∙◌}
use mathlib.Core.Bool.{Bool, true, false}
use mathlib.Core.List.{List, [], ◌∷◌, Memᴰ}
use native.Mathlib.Omega.{arith}
use lib.Dec.{ltb}
use lib.ListN.{length, get_or}
use lib.Seq.{get_or-take, length-take-le}
use borrow.Author.Tests.{ltb-true, ltb-false}
use Rattle.seq.proofs.Positions.{get_or-mem}
use Rattle.seq.specs.Lists.{cons_if, select}
use Rattle.grid.specs.Values.{Rect}
use Rattle.representation.specs.Arrays.{rects_of, rect_in}
use Rattle.grid.specs.Layout.{Between, between, index_of}
use Rattle.grid.proofs.LayoutLaws.{length-between, between-at}
use Rattle.representation.proofs.RectsLaws.{length-rects, get_or-rects}
use Rattle.representation.specs.declared.Bounds.{Bounds}
use Rattle.representation.specs.declared.Numbering.{Numbering}
use Rattle.representation.specs.LayoutEntries.{lines_held, lines_numbered, numbering_of}

-- ---- the lines that an array holds, two neighbours a turn
pub no_between : Between
no_between = record { from = 0; to = 0 }

module _ (n : Numbering) (room : length n.lines ≡ 128) (few : n.count ≤ 128) where
  length-numbered : length (lines_numbered n) ≡ n.count
  length-numbered = length-take-le n.count n.lines (omega (arith, room, few))

  pub numbered-bands : length (between (lines_numbered n)) ≡ n.count - 1
  numbered-bands = length-between (lines_numbered n) ∙ rw length-numbered

  pub numbered-band-at : (k : ℕ) → k + 1 < n.count → get_or (between (lines_numbered n)) k no_between ≡ record { from = get_or n.lines k 0; to = get_or n.lines (k + 1) 0 }
  numbered-band-at k h =
      between-at (lines_numbered n) k no_between (omega (arith, length-numbered))
      ∙ rw (get_or-take n.count n.lines k 0 (omega arith), get_or-take n.count n.lines (k + 1) 0 h)

module _ (b : Bounds) where
  pub length-held : length (lines_held b) ≡ b.count
  length-held = length-numbered (numbering_of b) b.room b.few

  pub length-bands : length (between (lines_held b)) ≡ b.count - 1
  length-bands = numbered-bands (numbering_of b) b.room b.few

  pub band-at : (k : ℕ) → k + 1 < b.count → get_or (between (lines_held b)) k no_between ≡ record { from = get_or b.lines k 0; to = get_or b.lines (k + 1) 0 }
  band-at = numbered-band-at (numbering_of b) b.room b.few

-- ---- rectangles
pub no_rect : Rect
no_rect = record { top = 0; left = 0; bottom = 0; right = 0 }

-- what holds of each rectangle holds of number k
pub rect-holds : (P : Rect → Type 0) (rects : List ℕ) (n k : ℕ) → k < n → ((r : Rect) → Memᴰ r (rects_of n rects) → P r) → P (rect_in rects k)
rect-holds P rects n k h all =
    rw (get_or-rects n k rects no_rect h) at (all (get_or (rects_of n rects) k no_rect) (get_or-mem (rects_of n rects) k no_rect (rw length-rects h)))

-- a line further on has a number no smaller
pub index-grows : (lines : List ℕ) (x y : ℕ) → x ≤ y → index_of lines x ≤ index_of lines y
unfolding index_of select
index-grows [] x y h = omega arith
index-grows (a ∷ lines) x y h = go (ltb a x) refl (ltb a y) refl (index-grows lines x y h) where
  go : (t : Bool) → ltb a x ≡ t → (u : Bool) → ltb a y ≡ u → index_of lines x ≤ index_of lines y
      → length (cons_if t a (select (λ line. ltb line x) lines)) ≤ length (cons_if u a (select (λ line. ltb line y) lines))
  go true e true f later = omega arith
  go true e false f later = absurd (omega (arith, ltb-true a x e, ltb-false a y f))
  go false e true f later = omega arith
  go false e false f later = later
