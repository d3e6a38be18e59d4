-- The lines of a text, each from a start to an end.
use Rattle.std.specs.Prelude.{ℕ, ◌-◌, ◌≤◌, ◌<◌, ◌≡◌, true, List, map, length, get_or, take, drop}
use Rattle.seq.specs.Lists.{range, sum}
use Rattle.text.specs.Trim.{trim_end}
use Rattle.text.specs.Utf8.{char_indices, well_formed}
use Rattle.text.specs.Lines.{no_text}
use Rattle.grid.specs.Flat.{split_text}
use Rattle.drawing.specs.Sizes.{measure}

-- the columns of a line, a tab counted as 4
unfoldable pub line_columns : List ℕ → ℕ
line_columns line = sum (map measure (char_indices line))

-- line i, and `count` lines from line `first` on
abbrev pub line_at : (text starts ends : List ℕ) → ℕ → List ℕ
line_at text starts ends i = take (get_or ends i 0 - get_or starts i 0) (drop (get_or starts i 0) text)

abbrev pub lines_at : (text starts ends : List ℕ) → ℕ → ℕ → List (List ℕ)
lines_at text starts ends first count = map (line_at text starts ends) (range first count)

-- each line of the text, trimmed, stands from its start to its end
pub record Trimmed (lengths text starts ends : List ℕ) : Type 0 where
  pub start_room : length lengths ≤ length starts
  pub end_room : length lengths ≤ length ends
  pub forward : (i : ℕ) → i < length lengths → get_or starts i 0 ≤ get_or ends i 0
  pub inside : (i : ℕ) → i < length lengths → get_or ends i 0 ≤ length text
  pub trimmed : (i : ℕ) → i < length lengths → line_at text starts ends i ≡ trim_end (get_or (split_text lengths text) i no_text)

-- lines that can be measured: short ones of the set
pub record Measurable (text starts ends : List ℕ) (count : ℕ) : Type 0 where
  pub start_room : count ≤ length starts
  pub end_room : count ≤ length ends
  pub forward : (i : ℕ) → i < count → get_or starts i 0 ≤ get_or ends i 0
  pub inside : (i : ℕ) → i < count → get_or ends i 0 ≤ length text
  pub short : (i : ℕ) → i < count → length (line_at text starts ends i) ≤ 512
  pub well : (i : ℕ) → i < count → well_formed (line_at text starts ends i) ≡ true
