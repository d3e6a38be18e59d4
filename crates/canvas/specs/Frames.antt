-- Where a cell's borders stand, from its entries.
use Rattle.std.specs.Prelude.{ℕ, ◌+◌, ◌*◌, ◌<◌, List, get_or}
use Rattle.grid.specs.Values.{Rect}

-- the borders of cell k, from its row, column, colspan and rowspan
abbrev pub frame_in : (cells xs ys : List ℕ) → ℕ → Rect
frame_in cells xs ys k =
    record {
      top = get_or ys (get_or cells (5 * k) 0) 0;
      left = get_or xs (get_or cells (5 * k + 1) 0) 0;
      bottom = get_or ys (get_or cells (5 * k) 0 + get_or cells (5 * k + 3) 0) 0;
      right = get_or xs (get_or cells (5 * k + 1) 0 + get_or cells (5 * k + 2) 0) 0;
    }

-- the lines of cell k are lines of the two arrays, and its borders lie on the canvas
pub record Placeable (cells xs ys : List ℕ) (k : ℕ) : Type 0 where
  pub rows : get_or cells (5 * k) 0 + get_or cells (5 * k + 3) 0 < 128
  pub columns : get_or cells (5 * k + 1) 0 + get_or cells (5 * k + 2) 0 < 128
  pub top : (frame_in cells xs ys k).top < 128
  pub left : (frame_in cells xs ys k).left < 128
  pub bottom : (frame_in cells xs ys k).bottom < 128
  pub right : (frame_in cells xs ys k).right < 128
