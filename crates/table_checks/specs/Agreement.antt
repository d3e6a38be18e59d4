-- What the limits of a table's lines need.
use Rattle.std.specs.Prelude.{ℕ, ◌*◌, ◌≡◌, List, length}
use Rattle.seq.specs.Lists.{sum}
use Rattle.representation.specs.TableIn.{counts_in}

-- the cells' numbers of lines add up to the lines, and the lines' lengths to the text
pub record Agree (n : ℕ) (cells lengths text : List ℕ) : Type 0 where
  pub cells_room : length cells ≡ 5 * n
  pub lines_agree : sum (counts_in n cells) ≡ length lengths
  pub bytes_agree : sum lengths ≡ length text
