-- Column and row lines in arrays.
use Rattle.std.specs.Prelude.{ℕ, ◌+◌, ◌≤◌, ◌<◌, ◌≡◌, ◌||◌, cond, List, ◌++◌, length, get_or, take, drop, eqb}
use Rattle.seq.specs.Lists.{up_to, any, select}
use Rattle.grid.specs.Values.{Rect}
use Rattle.grid.specs.Layout.{index_of}
use Rattle.grid.specs.Flat.{every_nth}
use Rattle.representation.specs.declared.Bounds.{Bounds}

-- the edges of n rectangles: tops and bottoms from 0 on, lefts and rights from 1 on
abbrev pub edge_list : ℕ → ℕ → List ℕ → List ℕ
edge_list n from rects = every_nth 4 n (drop from rects) ++ every_nth 4 n (drop (from + 2) rects)

-- 1 at each number of the list, else 0
pub record Marks (edges marks : List ℕ) : Type 0 where
  pub room : length marks ≡ 128
  pub marked : (x : ℕ) → x < 128 → get_or marks x 0 ≡ cond (any (eqb x) edges) 1 0

-- the lines of a list, all below size, with the number of each
pub record Collected (list : List ℕ) (size : ℕ) (r : Bounds) : Type 0 where
  pub room : length r.lines ≡ 128
  pub index_room : length r.index ≡ 128
  pub counted : r.count ≡ length list
  pub few : r.count ≤ size
  pub listed : take r.count r.lines ≡ list
  pub indexed : (x : ℕ) → x < size → get_or r.index x 0 ≡ index_of list x

-- a grid's row lines by its height, and column lines by its width
abbrev pub row_lines_below : ℕ → List Rect → List ℕ
row_lines_below height rs = select (λ y. any (λ (r : Rect). eqb y r.top || eqb y r.bottom) rs) (up_to height)

abbrev pub column_lines_below : ℕ → List Rect → List ℕ
column_lines_below width rs = select (λ x. any (λ (r : Rect). eqb x r.left || eqb x r.right) rs) (up_to width)
