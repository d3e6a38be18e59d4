-- The sizes of a drawing's lines.
use Rattle.std.specs.Prelude.{◌≡◌, List, map, ℕ, length, take}
use Rattle.seq.specs.Lists.{sum}
use Rattle.grid.specs.Values.{Line}
use Rattle.grid.specs.Flat.{join_text}
use Rattle.cm.specs.declared.output.LineSizes.{LineSizes}

abbrev pub line_lengths : List Line → List ℕ
line_lengths lines = map (λ (line : Line). length line.text) lines

abbrev pub drawn_text : List Line → List ℕ
drawn_text lines = join_text (map (λ (line : Line). line.text) lines)

-- the length of each line, and of all together
pub record Counted (lines : List Line) (s : LineSizes) : Type 0 where
  pub room : length s.lengths ≡ 128
  pub each : take (length lines) s.lengths ≡ line_lengths lines
  pub total : s.bytes ≡ sum (line_lengths lines)
