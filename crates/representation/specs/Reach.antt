-- How far borders reach: in an array beside the glyphs, the last column (line) of the horizontal (vertical) run from each slot.
use Rattle.std.specs.Prelude.{ℕ, ◌≤◌, ◌<◌, ◌≡◌, true, List}
use Rattle.grid.specs.Slots.{horizontal, vertical}
use Rattle.representation.specs.Arrays.{code_at, code_glyph}

-- a slot that is no border reaches only itself. Beyond itself it reaches x exactly when the run from it goes on to x
pub record ReachRight (height width : ℕ) (glyphs right : List ℕ) : Type 0 where
  pub self : (y x : ℕ) → y < height → x < width → x ≤ code_at right y x
  pub inside : (y x : ℕ) → y < height → x < width → code_at right y x < width
  pub run : (y x e : ℕ) → y < height → x < width → x < e → e ≤ code_at right y x
      → (k : ℕ) → x ≤ k → k ≤ e → horizontal (code_glyph (code_at glyphs y k)) ≡ true
  pub whole : (y x e : ℕ) → y < height → e < width → x < e
      → ((k : ℕ) → x ≤ k → k ≤ e → horizontal (code_glyph (code_at glyphs y k)) ≡ true) → e ≤ code_at right y x

pub record ReachDown (height width : ℕ) (glyphs down : List ℕ) : Type 0 where
  pub self : (y x : ℕ) → y < height → x < width → y ≤ code_at down y x
  pub inside : (y x : ℕ) → y < height → x < width → code_at down y x < height
  pub run : (y x e : ℕ) → y < height → x < width → y < e → e ≤ code_at down y x
      → (k : ℕ) → y ≤ k → k ≤ e → vertical (code_glyph (code_at glyphs k x)) ≡ true
  pub whole : (y x e : ℕ) → x < width → e < height → y < e
      → ((k : ℕ) → y ≤ k → k ≤ e → vertical (code_glyph (code_at glyphs k x)) ≡ true) → e ≤ code_at down y x
