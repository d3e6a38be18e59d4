-- Rectangles in an array, four entries each.
use Rattle.std.specs.Prelude.{ℕ, ◌+◌, ◌*◌, List, set}
use Rattle.grid.specs.Values.{Rect}

-- the array with rectangle n replaced
abbrev pub with_rect : List ℕ → ℕ → Rect → List ℕ
with_rect array n r =
    set (set (set (set array (n * 4) r.top) (n * 4 + 1) r.left) (n * 4 + 2) r.bottom) (n * 4 + 3) r.right
