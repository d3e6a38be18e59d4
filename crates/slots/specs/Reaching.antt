-- How far borders reach, along one line or one column.
use Rattle.std.specs.Prelude.{ℕ, ◌+◌, ◌*◌, ◌≤◌, ◌<◌, ◌≡◌, Bool, true, false, ◌&&◌, cond, List, length, get_or}
use Rattle.grid.specs.Slots.{horizontal, vertical}
use Rattle.representation.specs.Arrays.{code_at, code_glyph}

-- places from `from` on, of a line of `size`: each reaches the last place of the run of borders from it
pub record RunsFrom (from size : ℕ) (border : ℕ → Bool) (reach : ℕ → ℕ) : Type 0 where
  pub self : (x : ℕ) → from ≤ x → x < size → x ≤ reach x
  pub inside : (x : ℕ) → from ≤ x → x < size → reach x < size
  pub run : (x e : ℕ) → from ≤ x → x < size → x < e → e ≤ reach x → (k : ℕ) → x ≤ k → k ≤ e → border k ≡ true
  pub whole : (x e : ℕ) → from ≤ x → e < size → x < e → ((k : ℕ) → x ≤ k → k ≤ e → border k ≡ true) → e ≤ reach x

-- line y, from column x on
unfoldable pub RightRuns : ℕ → ℕ → ℕ → List ℕ → List ℕ → Type 0
RightRuns width y x glyphs right = RunsFrom x width (λ k. horizontal (code_glyph (code_at glyphs y k))) (λ k. code_at right y k)

-- column x, from line y on
unfoldable pub DownRuns : ℕ → ℕ → ℕ → List ℕ → List ℕ → Type 0
DownRuns height x y glyphs down = RunsFrom y height (λ k. vertical (code_glyph (code_at glyphs k x))) (λ k. code_at down k x)

-- a vertical run goes on from the slot at an index to the one below
abbrev pub joins_below : List ℕ → ℕ → Bool
joins_below glyphs at = vertical (code_glyph (get_or glyphs at 0)) && vertical (code_glyph (get_or glyphs (at + 128) 0))

-- no two slots side by side on line y are horizontal
abbrev pub NoRun : ℕ → ℕ → List ℕ → Type 0
NoRun width y glyphs =
    (x : ℕ) → x + 1 < width → horizontal (code_glyph (code_at glyphs y x)) && horizontal (code_glyph (code_at glyphs y (x + 1))) ≡ false

-- how far the first slots of line y reach down, in place of those below them
pub record Stepped (width y : ℕ) (glyphs ends ends' : List ℕ) : Type 0 where
  pub kept : length ends' ≡ length ends
  pub steps : (x : ℕ) → x < width → get_or ends' x 0 ≡ cond (joins_below glyphs (y * 128 + x)) (get_or ends x 0) y
  pub rest : (x : ℕ) → width ≤ x → get_or ends' x 0 ≡ get_or ends x 0

-- a line of an array written, with the same room
pub record LineRight (width y : ℕ) (glyphs right right' : List ℕ) : Type 0 where
  pub kept : length right' ≡ length right
  pub above : (i : ℕ) → i < y * 128 → get_or right' i 0 ≡ get_or right i 0
  pub runs : RightRuns width y 0 glyphs right'

-- the first slots of a line of an array written, each as its column says
pub record LineOf (width y : ℕ) (value : ℕ → ℕ) (array array' : List ℕ) : Type 0 where
  pub kept : length array' ≡ length array
  pub above : (i : ℕ) → i < y * 128 → get_or array' i 0 ≡ get_or array i 0
  pub below : (i : ℕ) → y * 128 + 128 ≤ i → get_or array' i 0 ≡ get_or array i 0
  pub slots : (x : ℕ) → x < width → code_at array' y x ≡ value x

-- a line of the drawing, with room for it in both arrays
pub record LineRoom (width y : ℕ) (glyphs array : List ℕ) : Type 0 where
  pub width_fits : width ≤ 128
  pub glyph_room : y * 128 + 128 ≤ length glyphs
  pub array_room : y * 128 + 128 ≤ length array
