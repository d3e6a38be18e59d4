-- Laws of the entries of cells: the number more of a cell is how many lines it has.
use Prim.Native.Nat.{ℕ, ◌+◌, ◌*◌, ◌≤◌, ◌<◌}
use mathlib.Core.Path.{◌≡◌}
use mathlib.Core.List.{List}
use native.Mathlib.Omega.{arith}
use lib.ListN.{length, get_or}
use Rattle.grid.specs.Values.{Rect}
use Rattle.representation.specs.Arrays.{rects_of, rect_in}
use Rattle.layout.specs.Written.{MoreRoom}
use Rattle.cell.specs.Text.{CountedBy}
use Rattle.cell.proofs.pieces.TotalLaws.{counted-here}

pub counts-room : (counts : List ℕ) (n : ℕ) → n ≤ length counts → n ≤ 1024 → MoreRoom n counts 1 0
counts-room counts n room few = record { inside = λ k h. omega arith; small = λ k h. omega arith }

pub counts-more : (f : Rect → ℕ) (rects : List ℕ) (n : ℕ) (counts : List ℕ) → CountedBy f (rects_of n rects) counts
    → (k : ℕ) → k < n → get_or counts (1 * k + 0) 0 ≡ f (rect_in rects k)
counts-more f rects n counts counted k h = let e : 1 * k + 0 ≡ k = omega arith in rw e (counted-here f rects n counts k counted h)
