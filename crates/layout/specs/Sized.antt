-- What the sizes of a layout are.
use Rattle.std.specs.Prelude.{ℕ, ◌*◌, ◌-◌, ◌≡◌, Bool, ◌||◌, ltb, List, length}
use Rattle.grid.specs.Values.{Rect}
use Rattle.grid.specs.Layout.{inner_count}
use Rattle.representation.specs.Edges.{Collected, row_lines_below, column_lines_below}
use Rattle.layout.specs.declared.sizes.Measured.{Measured}

-- the tests of 12
abbrev pub sizes_short : ℕ → ℕ → ℕ → ℕ → ℕ → ℕ → ℕ → ℕ → Bool
sizes_short cols rows cells ranges across down n m =
    ltb cols (2 * across) || ltb rows (3 * down) || ltb cells (5 * n) || ltb ranges (2 * m)

-- and of the arrays of a layout with these n rectangles
abbrev pub rects_short : ℕ → ℕ → List Rect → ℕ → ℕ → ℕ → ℕ → ℕ → Bool
rects_short height width rs n cols rows cells ranges =
    sizes_short cols rows cells ranges (length (column_lines_below width rs) - 1) (length (row_lines_below height rs) - 1) n (inner_count rs)

-- the lines and sizes of n rectangles
pub record SizesTold (height width : ℕ) (rs : List Rect) (n : ℕ) (m : Measured) : Type 0 where
  pub down : Collected (row_lines_below height rs) height m.tops
  pub across : Collected (column_lines_below width rs) width m.lefts
  pub width_told : m.sizes.width.0 ≡ width
  pub columns_told : m.sizes.columns ≡ m.lefts.count - 1
  pub rows_told : m.sizes.rows ≡ m.tops.count - 1
  pub cells_told : m.sizes.cells ≡ n
  pub ranges_told : m.sizes.ranges ≡ inner_count rs

-- and whether arrays of these lengths have too little room for them
pub record LayoutSized (height width : ℕ) (rs : List Rect) (n cols rows cells ranges : ℕ) (m : Measured) : Type 0 where
  pub told : SizesTold height width rs n m
  pub short_told : m.short ≡ rects_short height width rs n cols rows cells ranges
