-- A drawing's arrays once its sizes, limits and characters are checked.
use Rattle.std.specs.Prelude.{ℕ, ◌≤◌, ◌≡◌, List, length, get_or}
use Rattle.std.proofs.Math.Option.{none}
use Rattle.seq.specs.Lists.{sum}
use Rattle.grid.specs.Flat.{lines_from}
use Rattle.grid.specs.Read.{outside_set}

-- arrays that agree, within the limits, with every character in the set
pub record Sheet (lengths columns text : List ℕ) : Type 0 where
  pub columns_agree : length columns ≡ length lengths
  pub bytes_agree : sum lengths ≡ length text
  pub few_lines : length lengths ≤ 128
  pub short_lines : (y : ℕ) → get_or lengths y 0 ≤ 512
  pub near_columns : (y : ℕ) → get_or columns y 0 ≤ 255
  pub in_set : outside_set (lines_from lengths columns text) ≡ none
