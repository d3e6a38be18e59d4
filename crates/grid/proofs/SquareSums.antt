-- Over the rectangles of a cover every unit square of the grid is counted once.
use Prim.Native.Nat.{ℕ, ◌-◌}
use mathlib.Core.Path.{◌≡◌, refl, sym, ◌∙◌}
use mathlib.Core.Bool.{Bool, true, false, ◌&&◌, cond}
use mathlib.Core.List.{List, map, Memᴰ}
use native.Mathlib.Omega.{arith}
use native.Mathlib.Nat.{one-mul}
use lib.Dec.{leb, ltb}
use Rattle.seq.specs.Lists.{range, up_to, sum}
use Rattle.seq.proofs.Ranges.{range-mem}
use Rattle.seq.proofs.Sums.{sum_same, sum-nothing, sum-picked, sum-exchange, sum-window}
use Rattle.grid.specs.Values.{Rect}
use Rattle.grid.specs.Slots.{Grid}
use Rattle.grid.specs.Cover.{holds, Cover}

module _ (weight : ℕ → ℕ → ℕ) where
  -- what the squares of a rectangle weigh together, and those of a grid
  abbrev pub rect_weight : Rect → ℕ
  rect_weight r = sum (map (λ y. sum (map (weight y) (range r.left (r.right - r.left)))) (range r.top (r.bottom - r.top)))

  abbrev pub grid_weight : Grid → ℕ
  grid_weight g = sum (map (λ y. sum (map (weight y) (up_to (g.width - 1)))) (up_to (g.height - 1)))

  -- a square's weight where the rectangle holds it
  abbrev held_weight : Rect → ℕ → ℕ → ℕ
  held_weight r y x = cond (holds y x r) (weight y x) 0

  -- line by line: nothing where the line is not the rectangle's
  held-line : (y width : ℕ) (r : Rect) (t : Bool)
      → cond t (sum (map (λ x. cond (leb r.left x && ltb x r.right) (weight y x) 0) (up_to width))) 0
      ≡ sum (map (λ x. cond (t && leb r.left x && ltb x r.right) (weight y x) 0) (up_to width))
  held-line y width r true = refl
  held-line y width r false = sym (sum-nothing (λ x. 0) (up_to width) (λ x _. refl))

  module _ (g : Grid) (rs : List Rect) (cover : Cover g rs) where
    abbrev width : ℕ
    width = g.width - 1

    abbrev height : ℕ
    height = g.height - 1

    held-squares : (r : Rect) → Memᴰ r rs → rect_weight r ≡ sum (map (λ y. sum (map (held_weight r y) (up_to width))) (up_to height))
    held-squares r m =
        let b = (cover.first r m).bordered in
        let line : ℕ → ℕ = λ y. sum (map (λ x. cond (leb r.left x && ltb x r.right) (weight y x) 0) (up_to width)) in
        sum_same (λ y. sum (map (weight y) (range r.left (r.right - r.left)))) line (range r.top (r.bottom - r.top))
        (λ y _. sym (sum-window (weight y) r.left r.right width (omega (arith, b.left_before_right)) (omega (arith, b.right_inside))))
        ∙ sym (sum-window line r.top r.bottom height (omega (arith, b.top_above_bottom)) (omega (arith, b.bottom_inside)))
        ∙ sum_same (λ y. cond (leb r.top y && ltb y r.bottom) (line y) 0) (λ y. sum (map (held_weight r y) (up_to width))) (up_to height)
        (λ y _. held-line y width r (leb r.top y && ltb y r.bottom))

    square-once : (y x : ℕ) → Memᴰ y (up_to height) → Memᴰ x (up_to width) → sum (map (λ r. held_weight r y x) rs) ≡ weight y x
    square-once y x my mx =
        sum-picked (holds y x) (weight y x) rs
        ∙ rw (cover.once y x (omega (arith, range-mem 0 height y my)) (omega (arith, range-mem 0 width x mx))) (one-mul (weight y x))

    -- What the squares of the rectangles weigh, rectangle by rectangle, is what all squares of the grid weigh.
    pub cover-weight : sum (map rect_weight rs) ≡ grid_weight g
    cover-weight =
        sum_same rect_weight (λ r. sum (map (λ y. sum (map (held_weight r y) (up_to width))) (up_to height))) rs held-squares
        ∙ sum-exchange (λ r y. sum (map (held_weight r y) (up_to width))) rs (up_to height)
        ∙ sum_same (λ y. sum (map (λ r. sum (map (held_weight r y) (up_to width))) rs)) (λ y. sum (map (weight y) (up_to width))) (up_to height)
        (λ y my.
        sum-exchange (λ r. held_weight r y) rs (up_to width)
        ∙ sum_same (λ x. sum (map (λ r. held_weight r y x) rs)) (weight y) (up_to width) (λ x mx. square-once y x my mx))
