-- What finding positions needs.
use Rattle.std.specs.Prelude.{ℕ, ◌≤◌, ◌<◌, ◌≡◌, List, length, get_or, take}
use Rattle.seq.specs.Lists.{sum}
use Rattle.grid.specs.Limits.{max_lines, max_line_bytes, max_bytes, max_register}

-- a table byte for each line's number, so small that no byte of a line makes it wrap
pub record Numbered (numbers table_bytes : List ℕ) : Type 0 where
  pub few : length numbers ≤ max_lines
  pub agree : length table_bytes ≡ length numbers
  pub low : (y : ℕ) → get_or table_bytes y 0 ≤ max_register

-- short lines back to back, and where each starts
pub record Started (lengths text starts : List ℕ) : Type 0 where
  pub bytes_agree : sum lengths ≡ length text
  pub few_bytes : length text ≤ max_bytes
  pub short_lines : (y : ℕ) → get_or lengths y 0 ≤ max_line_bytes
  pub start_room : length lengths ≤ length starts
  pub started : (y : ℕ) → y < length lengths → get_or starts y 0 ≡ sum (take y lengths)

-- numbers and table bytes of a drawing's lines, and room for where they start
pub record PlacedSheet (lengths numbers table_bytes : List ℕ) (starts : ℕ) : Type 0 where
  pub numbered : Numbered numbers table_bytes
  pub agree : length numbers ≡ length lengths
  pub start_room : max_lines ≤ starts
