-- Slots as arrays: line y's slots stand from index y * 128 on.
use Rattle.std.specs.Prelude.{ℕ, zero, suc, ◌+◌, ◌*◌, ◌≤◌, ◌<◌, ◌≡◌, cond, List, [], ◌∷◌, map, length, get_or, take, drop, eqb}
use Rattle.seq.specs.Lists.{up_to}
use Rattle.grid.specs.Values.{Rect}
use Rattle.grid.specs.Slots.{Glyph, Plus, Dash, Pipe, Other, Slot, Grid}
use Rattle.grid.specs.LayoutCall.{slot_space}

-- a glyph as a number: 1 for horizontal and 2 for vertical
abbrev pub glyph_code : Glyph → ℕ
glyph_code Other = 0
glyph_code Dash = 1
glyph_code Pipe = 2
glyph_code Plus = 3

abbrev pub code_glyph : ℕ → Glyph
code_glyph code = cond (eqb code 3) Plus (cond (eqb code 2) Pipe (cond (eqb code 1) Dash Other))

-- the array's glyph at line y, column x
abbrev pub code_at : List ℕ → ℕ → ℕ → ℕ
code_at array y x = get_or array (y * 128 + x) 0

abbrev pub glyph_codes : List Slot → List ℕ
glyph_codes slots = map (λ (s : Slot). glyph_code s.glyph) slots

abbrev pub slot_bytes : List Slot → List ℕ
slot_bytes slots = map (λ (s : Slot). s.byte) slots

-- the glyphs of an array as a grid of that height and width; tracing looks at nothing else
unfoldable pub array_grid : ℕ → ℕ → List ℕ → Grid
array_grid height width glyphs =
    record {
      width = width;
      height = height;
      rows = map (λ y. map (λ x. record { glyph = code_glyph (code_at glyphs y x); byte = 0 }) (up_to width)) (up_to height);
      separators = [];
    }

-- the arrays hold these rows of slots, each of this width
pub record Holds (rows : List (List Slot)) (width : ℕ) (glyphs offsets : List ℕ) : Type 0 where
  pub glyph_row : (y : ℕ) → y < length rows → take width (drop (y * 128) glyphs) ≡ glyph_codes (get_or rows y [])
  pub offset_row : (y : ℕ) → y < length rows → take width (drop (y * 128) offsets) ≡ slot_bytes (get_or rows y [])

-- a height, a width and arrays that have room for them
pub record Roomy (height width : ℕ) (glyphs offsets : List ℕ) : Type 0 where
  pub height_fits : height ≤ 128
  pub width_fits : width ≤ 128
  pub glyph_room : slot_space ≤ length glyphs
  pub offset_room : slot_space ≤ length offsets

-- n rectangles of an array, four numbers each: top, left, bottom, right
unfoldable pub rects_of : ℕ → List ℕ → List Rect
rects_of zero array = []
rects_of (suc n) array =
    record { top = get_or array 0 0; left = get_or array 1 0; bottom = get_or array 2 0; right = get_or array 3 0 } ∷ rects_of n (drop 4 array)

-- rectangle k of an array
abbrev pub rect_in : List ℕ → ℕ → Rect
rect_in rects k =
    record { top = get_or rects (4 * k) 0; left = get_or rects (4 * k + 1) 0; bottom = get_or rects (4 * k + 2) 0; right = get_or rects (4 * k + 3) 0 }
