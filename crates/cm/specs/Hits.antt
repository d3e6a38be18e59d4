-- Document 01, "Split (11)": at which columns a cell's lines show `|` or `+`.
use Rattle.std.specs.Prelude.{ℕ, ◌+◌, ◌-◌, ◌≤◌, ◌<◌, ◌≡◌, Bool, true, false, ◌&&◌, cond, List, map, length, get_or, eqb}
use Rattle.seq.specs.Lists.{range, up_to, all, any}
use Rattle.text.specs.Characters.{plus}
use Rattle.text.specs.Columns.{columns_from}
use Rattle.text.specs.Utf8.{char_indices, well_formed}
use Rattle.text.specs.Lines.{no_text}
use Rattle.grid.specs.Values.{Rect}
use Rattle.grid.specs.Slots.{Glyph, Other, Slot, vertical, slots_from}
use Rattle.representation.specs.Arrays.{code_at}

-- the glyph at each column of a text that starts at a column
abbrev pub text_glyphs : ℕ → List ℕ → List Glyph
text_glyphs column line = map (λ (s : Slot). s.glyph) (slots_from false column (char_indices line))

-- does the text show `|` or `+` at its column x
abbrev pub shows_at : ℕ → List ℕ → ℕ → Bool
shows_at column line x = vertical (get_or (text_glyphs column line) x Other)

-- a text from column `from` of the canvas on, as line i: one more where all lines before and this one show it
pub record Hit (column : ℕ) (line : List ℕ) (from i : ℕ) (before after : List ℕ) : Type 0 where
  pub room : length after ≡ 128
  pub left : (z : ℕ) → z < from → get_or after z 0 ≡ get_or before z 0
  pub right : (z : ℕ) → from ≤ z → z < 128 → get_or after z 0 ≡ cond (eqb (get_or before z 0) i && shows_at column line (z - from)) (i + 1) (get_or before z 0)

-- lines that are well formed and end before the canvas does
pub record Hittable (column from : ℕ) (lines : List (List ℕ)) : Type 0 where
  pub well : (i : ℕ) → well_formed (get_or lines i no_text) ≡ true
  pub short : (i : ℕ) → length (get_or lines i no_text) ≤ 512
  pub inside : (i : ℕ) → from + columns_from column (char_indices (get_or lines i no_text)) < 128

-- the first `count` lines
pub record HitLines (column : ℕ) (lines : List (List ℕ)) (from count : ℕ) (hits : List ℕ) : Type 0 where
  pub room : length hits ≡ 128
  pub few : (z : ℕ) → get_or hits z 0 ≤ count
  pub left : (z : ℕ) → z < from → get_or hits z 0 ≡ 0
  pub right : (z : ℕ) → from ≤ z → z < 128 → eqb (get_or hits z 0) count ≡ all (λ i. shows_at column (get_or lines i no_text) (z - from)) (up_to count)

-- is there a column inside with a `+` above and below that every line shows
abbrev pub split_column : List ℕ → Rect → ℕ → List ℕ → Bool
split_column canvas r lines hits =
    any (λ x. eqb (code_at canvas r.top x) plus && eqb (code_at canvas r.bottom x) plus && eqb (get_or hits x 0) lines)
    (range (r.left + 1) (r.right - r.left - 1))
