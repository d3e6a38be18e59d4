-- The calls after the rectangles are read.
use Prim.Native.Nat.{ℕ}
use mathlib.Core.Path.{◌≡◌, refl}
use mathlib.Core.Bool.{Bool, true, false, ◌||◌}
use mathlib.Core.List.{List}
use lib.Dec.{leb}
use lib.ListN.{length, get_or}
use Rattle.grid.specs.Answer.{Answer, accept, refuse, refuse_if, and_then}
use Rattle.grid.specs.Values.{Rect, Layout}
use Rattle.grid.specs.Slots.{grid_of}
use Rattle.grid.specs.Layout.{layout_of}
use Rattle.grid.specs.Read.{read_rects, read_layout}
use Rattle.grid.specs.Flat.{lines_of, shorter}
use Rattle.grid.specs.LayoutCall.{LayoutSpace}
use Rattle.grid.specs.TableCall.{no_cell}
use Rattle.sourcepos.specs.Positions.{cell_position}
use Rattle.sourcepos.specs.PositionsCall.{FlatPlaced, placed_contradicts, placed_of, numbers_too_large, placed_layout, PositionArrays, position_arrays}
use Rattle.sourcepos.specs.PositionsCall.{positions_accept, positions_answer, positions_afterwards, cell_position_answer}
use Rattle.positions.specs.Parts.{placed_rects}

module _ (w : LayoutSpace) (starts : ℕ) (p : FlatPlaced) where
  abbrev layout_from : List Rect → Layout
  layout_from rs = layout_of (lines_of p.drawing) (grid_of (lines_of p.drawing)) rs

  layout-placed : placed_layout w starts p ≡ and_then (placed_rects w starts p) (λ rs. accept (layout_from rs))
  unfolding placed_layout placed_rects read_layout
  layout-placed = go (placed_contradicts w starts p) (numbers_too_large p) (read_rects (lines_of p.drawing)) where
    go : (a b : Bool) (r : Answer (List Rect))
        → refuse_if a 13 (refuse_if b 2 (and_then r (λ rs. accept (layout_from rs)))) ≡ and_then (refuse_if a 13 (refuse_if b 2 r)) (λ rs. accept (layout_from rs))
    go true b r = refl
    go false true r = refl
    go false false r = refl

  module _ {number place : ℕ} (e : refuse number place ≡ placed_rects w starts p) where
    layout-refused : placed_layout w starts p ≡ refuse number place
    layout-refused = rw (layout-placed, ← e)

    pub positions-stopped : (out : PositionArrays) → (refuse number place ≡ positions_answer w starts p out) × (out ≡ positions_afterwards w starts p out)
    unfolding positions_answer positions_afterwards positions_accept
    positions-stopped out = (rw layout-refused, rw layout-refused)

    pub cell-stopped : (k : ℕ) → refuse number place ≡ cell_position_answer w starts p k
    unfolding cell_position_answer
    cell-stopped k = rw layout-refused

  module _ {rs : List Rect} (e : placed_rects w starts p ≡ accept rs) where
    layout-accepted : placed_layout w starts p ≡ accept (layout_from rs)
    layout-accepted = rw (layout-placed, e)

    pub positions-known : (out : PositionArrays) {t : Bool}
        → shorter out.rows (position_arrays (placed_of p) (layout_from rs)).rows || shorter out.cells (position_arrays (placed_of p) (layout_from rs)).cells ≡ t
        → positions_accept w starts p out ≡ refuse_if t 12 (accept (layout_from rs))
    unfolding positions_accept
    positions-known out test = rw (layout-accepted, test)

    pub cell-known : (k : ℕ) → cell_position_answer w starts p k
        ≡ refuse_if (leb (length (layout_from rs).cells) k) 13 (accept (cell_position (placed_of p) (layout_from rs) (get_or (layout_from rs).cells k no_cell)))
    unfolding cell_position_answer
    cell-known k = rw layout-accepted
