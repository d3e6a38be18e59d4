-- What the tests of the limits ask and answer.
use Rattle.std.specs.Prelude.{ℕ, ◌≤◌, ◌≡◌, Bool, List, ltb, length, get_or}
use Rattle.seq.specs.Lists.{sum, any}
use Rattle.grid.specs.Limits.{max_bytes}

-- the arrays of a drawing agree with each other
pub record Agree (lengths columns text : List ℕ) : Type 0 where
  pub columns_agree : length columns ≡ length lengths
  pub bytes_agree : sum lengths ≡ length text

-- and are within the limits
pub record WithinLimits (lengths columns text : List ℕ) : Type 0 where
  pub agreed : Agree lengths columns text
  pub few_lines : length lengths ≤ 128
  pub short_lines : (y : ℕ) → get_or lengths y 0 ≤ 512
  pub near_columns : (y : ℕ) → get_or columns y 0 ≤ 255
  pub few_bytes : length text ≤ max_bytes

-- any number is over the limit
unfoldable pub any_over : ℕ → List ℕ → Bool
any_over limit numbers = any (λ n. ltb limit n) numbers
