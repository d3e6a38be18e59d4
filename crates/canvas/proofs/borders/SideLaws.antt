-- The sides of a cell, down to a line.
use Prim.Native.Nat.{ℕ, ◌+◌, ◌*◌, ◌≤◌, ◌<◌}
use mathlib.Core.Path.{◌≡◌, refl, ap, ◌∙◌}
use mathlib.Core.Bool.{Bool, true, false, ◌&&◌, cond}
use mathlib.Core.List.{List}
use native.Mathlib.Omega.{arith}
use lib.Dec.{eqb}
use lib.ListN.{length, set, length-set}
use borrow.Author.Tests.{eqb-true}
use Rattle.grid.specs.Values.{Rect}
use Rattle.grid.specs.Slots.{pipe}
use Rattle.grid.specs.LayoutCall.{slot_space}
use Rattle.drawing.specs.Plain.{is_inside}
use Rattle.representation.specs.Arrays.{code_at}
use Rattle.representation.specs.LayoutEntries.{Inside}
use Rattle.representation.specs.Lent.{rect_of}
use Rattle.representation.specs.declared.rect.Rect.{Rect as Held}
use Rattle.canvas.specs.Painting.{Drawn, sided}
use Rattle.canvas.proofs.SlotLaws.{code-set, set_room, put-twice, inside-next, inside-not, inside-same, inside-empty}

-- a cell down to line y, and its sides drawn so far
abbrev down_to : Rect → ℕ → Rect
down_to r y = record { top = r.top; left = r.left; bottom = y; right = r.right }

pub record SidesSoFar (rect : Held) (number : ℕ) (canvas₀ canvas : List ℕ) (y : ℕ) : Type 0 where
  pub under : rect.top < y
  pub kept : length canvas ≡ length canvas₀
  pub drawn : Drawn (sided number (down_to (rect_of rect) y)) canvas₀ canvas

pub sides-start : (rect : Held) (number : ℕ) (canvas : List ℕ) → SidesSoFar rect number canvas canvas (rect.top + 1)
unfolding sided
sides-start rect number canvas =
    record { under = omega arith; kept = refl; drawn = record { slot = λ j i hj hi. rw (inside-empty rect.top j) } }

module _ (rect : Held) (number : ℕ) (canvas₀ canvas : List ℕ) (y : ℕ)
    (s : SidesSoFar rect number canvas₀ canvas y) (r : Inside 128 128 (rect_of rect)) where
  pub sides-end : y ≡ rect.bottom → Drawn (sided number (rect_of rect)) canvas₀ canvas
  sides-end e = rw e at s.drawn

  module _ (room : slot_space ≤ length canvas₀) (h : y < rect.bottom) where
    abbrev left : ℕ
    left = rect.left.0

    abbrev right : ℕ
    right = rect.right.0

    roomy : slot_space ≤ length canvas
    roomy = omega (arith, s.kept)

    low : y < 128
    low = omega (arith, r.tall)

    near : (left + 1 < 128) × (right < 128)
    near = (omega (arith, r.across, r.wide), r.wide)

    abbrev one : List ℕ
    one = set canvas (y * 128 + left + 1) number

    abbrev two : List ℕ
    two = set one (y * 128 + left) pipe

    abbrev three : List ℕ
    three = set two (y * 128 + right) pipe

    -- what a slot of this line holds, from the last write to the first
    abbrev on_line : Bool → ℕ → ℕ → ℕ
    on_line t i old = cond (t && eqb i right) pipe (cond (t && eqb i left) pipe (cond (t && eqb i (left + 1)) number old))

    slot_next : (j i : ℕ) → i < 128 → code_at three j i ≡ on_line (eqb j y) i (code_at canvas j i)
    slot_next j i hi =
        let space = set_room canvas (y * 128 + left + 1) number roomy in
        code-set two (y * 128 + right) y right pipe j i (set_room one (y * 128 + left) pipe space) refl low near.1 hi
        ∙ ap (cond (eqb j y && eqb i right) pipe)
        (code-set one (y * 128 + left) y left pipe j i space refl low (omega (arith, near)) hi
        ∙ ap (cond (eqb j y && eqb i left) pipe) (code-set canvas (y * 128 + left + 1) y (left + 1) number j i roomy (omega arith) low near.0 hi))

    sides-drawn : (j i : ℕ) → j < 128 → i < 128 → code_at three j i ≡ sided number (down_to (rect_of rect) (y + 1)) j i (code_at canvas₀ j i)
    unfolding sided
    sides-drawn j i hj hi = slot_next j i hi ∙ go (eqb j y) refl where
      go : (t : Bool) → eqb j y ≡ t → on_line t i (code_at canvas j i) ≡ sided number (down_to (rect_of rect) (y + 1)) j i (code_at canvas₀ j i)
      go true e =
          let q : j ≡ y = eqb-true j y e in
          let now : is_inside rect.top (y + 1) j ≡ true = rw q (inside-next rect.top y s.under) in
          let before : is_inside rect.top y j ≡ false = rw q (inside-not rect.top y) in
          let old : code_at canvas j i ≡ code_at canvas₀ j i = s.drawn.slot j i hj hi ∙ rw before in
          rw (now, old)
          (put-twice (eqb i left) (eqb i right) pipe (cond (eqb i (left + 1)) number (code_at canvas₀ j i)))
      go false e = s.drawn.slot j i hj hi ∙ rw (inside-same rect.top y j e)

    pub sides-next : SidesSoFar rect number canvas₀ three (y + 1)
    sides-next = record { under = omega (arith, s.under); kept = simp length-set s.kept; drawn = record { slot = sides-drawn } }
