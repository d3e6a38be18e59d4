-- How the arguments of drawing agree with a canvas, and what the drawn canvas bears.
use Rattle.std.specs.Prelude.{ℕ, ◌+◌, ◌≤◌, ◌<◌, ◌≡◌, true, false, List, map, get_or, eqb}
use Rattle.seq.specs.Lists.{any}
use Rattle.text.specs.Characters.{plus}
use Rattle.grid.specs.Slots.{pipe}
use Rattle.grid.specs.Flat.{columns_of_array}
use Rattle.drawing.specs.Plain.{Box, Canvas, corner_at, horizontal_at, vertical_at, border_byte, alignment_row, next_corner}
use Rattle.drawing.proofs.RuleRows.{Lined}
use Rattle.representation.specs.Arrays.{code_at, rects_of, rect_in}
use Rattle.canvas.specs.declared.Rules.{Rules}
use Rattle.canvas.specs.Painting.{is_ruled, next_mark}

-- the arrays hold the cells' borders, the rules and the columns of the canvas
pub record Drawable (v : Canvas) (n : ℕ) (rects : List ℕ) (rules : Rules) (cols : List ℕ) (columns : ℕ) (xs marks : List ℕ) (row : ℕ) : Type 0 where
  pub lined : Lined v
  pub frames : map (λ (b : Box). b.frame) v.boxes ≡ rects_of n rects
  pub ruled : (y : ℕ) → y < 128 → any (eqb y) v.rules ≡ is_ruled rules y
  pub aligned : row ≡ alignment_row v
  pub columned : v.columns ≡ columns_of_array columns cols
  pub stand : (k : ℕ) → k ≤ columns → get_or v.xs k 0 ≡ get_or xs k 0
  pub marked : (k : ℕ) → k < columns → corner_at v row (get_or xs k 0) ≡ eqb (get_or marks k 0) 1
  pub next : (k : ℕ) → k < columns → get_or marks k 0 ≡ 1 → next_corner v row (get_or xs k 0) ≡ get_or xs (next_mark marks columns (k + 1)) 0

-- the canvas bears each border's byte, and the number of a cell at the first inner column of each of its inner lines
pub record Pictured (v : Canvas) (n : ℕ) (rects canvas : List ℕ) : Type 0 where
  pub frames : map (λ (b : Box). b.frame) v.boxes ≡ rects_of n rects
  pub corner : (y x : ℕ) → y < 128 → x < 128 → corner_at v y x ≡ true → code_at canvas y x ≡ plus
  pub horizontal : (y x : ℕ) → y < 128 → x < 128 → corner_at v y x ≡ false → horizontal_at v y x ≡ true → code_at canvas y x ≡ border_byte v y x
  pub vertical : (y x : ℕ) → y < 128 → x < 128 → corner_at v y x ≡ false → horizontal_at v y x ≡ false → vertical_at v y x ≡ true
      → code_at canvas y x ≡ pipe
  pub first : (k y : ℕ) → k < n → (rect_in rects k).top < y → y < (rect_in rects k).bottom → code_at canvas y ((rect_in rects k).left + 1) ≡ 256 + k
