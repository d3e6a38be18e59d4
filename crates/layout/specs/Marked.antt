-- Marked numbers, and the lines collected from them.
use Rattle.std.specs.Prelude.{ℕ, ◌≤◌, ◌<◌, ◌≡◌, Bool, false, List, length, get_or, take, eqb}
use Rattle.seq.specs.Lists.{up_to, any, select}
use Rattle.grid.specs.Layout.{index_of}

-- true at each number of the list, else false
pub record EdgesMarked (edges : List ℕ) (marks : List Bool) : Type 0 where
  pub room : length marks ≡ 128
  pub marked : (x : ℕ) → x < 128 → get_or marks x false ≡ any (eqb x) edges

abbrev pub marked_below : List Bool → ℕ → List ℕ
marked_below marks size = select (λ x. get_or marks x false) (up_to size)

-- the lines of a list, all below size, with the number of each
pub record LinesCollected (list : List ℕ) (size : ℕ) (lines index : List ℕ) (count : ℕ) : Type 0 where
  pub room : length lines ≡ 128
  pub index_room : length index ≡ 128
  pub counted : count ≡ length list
  pub few : count ≤ size
  pub listed : take count lines ≡ list
  pub indexed : (x : ℕ) → x < size → get_or index x 0 ≡ index_of list x
