-- The corners of cells on a row line.
use Rattle.std.specs.Prelude.{ℕ, ◌+◌, ◌*◌, ◌≤◌, ◌<◌, ◌≡◌, Bool, not, ◌&&◌, cond, List, eqb, length, get_or}
use Rattle.seq.specs.Lists.{up_to, any}
use Rattle.drawing.specs.Plain.{is_edge}

-- has cell k of the array a corner where row line y and column line x meet
abbrev pub corner_of : List ℕ → ℕ → ℕ → ℕ → Bool
corner_of cells y x k =
    is_edge (get_or cells (5 * k) 0) (get_or cells (5 * k) 0 + get_or cells (5 * k + 3) 0) y
    && is_edge (get_or cells (5 * k + 1) 0) (get_or cells (5 * k + 1) 0 + get_or cells (5 * k + 2) 0) x

-- has one of the first n
abbrev pub any_corner : List ℕ → ℕ → ℕ → ℕ → Bool
any_corner cells n y x = any (corner_of cells y x) (up_to n)

-- n cells of at most 127 rows and columns
pub record Markable (cells : List ℕ) (n : ℕ) : Type 0 where
  pub few : n ≤ 1024
  pub room : 5 * n ≤ length cells
  pub low : (k : ℕ) → k < n → get_or cells (5 * k) 0 + get_or cells (5 * k + 3) 0 < 128
  pub near : (k : ℕ) → k < n → get_or cells (5 * k + 1) 0 + get_or cells (5 * k + 2) 0 < 128

-- 1 at each column line at which one of the first n has a corner on row line y
pub record Cornered (cells : List ℕ) (n y : ℕ) (marks : List ℕ) : Type 0 where
  pub room : length marks ≡ 128
  pub marked : (x : ℕ) → x < 128 → get_or marks x 0 ≡ cond (any_corner cells n y x) 1 0

-- is column k aligned and without a mark
abbrev pub lacks_corner : (cols marks : List ℕ) → ℕ → Bool
lacks_corner cols marks k = not (eqb (get_or cols (2 * k) 0) 0) && eqb (get_or marks k 0) 0
