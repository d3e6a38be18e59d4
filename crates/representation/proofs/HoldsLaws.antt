-- What arrays that hold a grid's rows say of each of its slots.
use Prim.Native.Nat.{ℕ, ◌+◌, ◌*◌, ◌<◌, ◌≤◌}
use mathlib.Core.Path.{◌≡◌, refl, sym, ap, ◌∙◌}
use mathlib.Core.Logic.{⊎_elim}
use mathlib.Core.Option.{none}
use mathlib.Core.List.{List, [], map}
use native.Mathlib.Omega.{arith}
use lib.ListN.{length, get_or, take, drop, length-map, get_or-eq_default}
use lib.Seq.{get_or-take, get_or-drop}
use Rattle.seq.specs.Lists.{up_to}
use Rattle.seq.proofs.Positions.{get_d_map, get_or-made}
use Rattle.seq.proofs.Ranges.{length-range}
use Rattle.seq.proofs.Tests.{le-or-lt}
use Rattle.grid.specs.Values.{Line}
use Rattle.grid.specs.Slots.{Glyph, Plus, Dash, Pipe, Other, Slot, Grid, grid_of, slot_at, glyph_at, byte_at}
use Rattle.grid.specs.Read.{wrong_width}
use Rattle.representation.specs.Arrays.{glyph_code, code_glyph, code_at, glyph_codes, slot_bytes, array_grid, Holds}
use Rattle.representation.proofs.ArrayLaws.{array-glyph}
use Rattle.grid.proofs.GlyphLaws.{SameGlyphs}
use Rattle.grid.proofs.SeparatorLaws.{row-filled}
use Rattle.grid.proofs.SlotLaws.{rows-length}

pub code-back : (k : Glyph) → code_glyph (glyph_code k) ≡ k
code-back Plus = refl
code-back Dash = refl
code-back Pipe = refl
code-back Other = refl

abbrev no_slot : Slot
no_slot = record { glyph = Other; byte = 0 }

-- an entry of a part of an array is the array's
part-entry : (array : List ℕ) (at w x : ℕ) (part : List ℕ) → take w (drop at array) ≡ part → x < w → get_or array (at + x) 0 ≡ get_or part x 0
part-entry array at w x part e h = sym (get_or-drop at array x 0) ∙ sym (get_or-take w (drop at array) x 0 h) ∙ ap (λ (l : List ℕ). get_or l x 0) e

module _ (g : Grid) (glyphs offsets : List ℕ) (h : Holds g.rows g.width glyphs offsets) (y x : ℕ) (tall : y < length g.rows) (wide : x < g.width)
    (full : length (get_or g.rows y []) ≡ g.width) where
  in_row : x < length (get_or g.rows y [])
  in_row = omega arith

  pub held-code : code_at glyphs y x ≡ glyph_code (glyph_at g y x)
  unfolding slot_at
  held-code =
      part-entry glyphs (y * 128) g.width x (glyph_codes (get_or g.rows y [])) (h.glyph_row y tall) wide
      ∙ get_d_map (λ (s : Slot). glyph_code s.glyph) (get_or g.rows y []) x 0 no_slot in_row

  pub held-glyph : code_glyph (code_at glyphs y x) ≡ glyph_at g y x
  held-glyph = ap code_glyph held-code ∙ code-back (glyph_at g y x)

  pub held-byte : code_at offsets y x ≡ byte_at g y x
  unfolding slot_at
  held-byte =
      part-entry offsets (y * 128) g.width x (slot_bytes (get_or g.rows y [])) (h.offset_row y tall) wide
      ∙ get_d_map (λ (s : Slot). s.byte) (get_or g.rows y []) x 0 no_slot in_row

-- past the rows, or past a row's end, there is no border
glyph-below : (g : Grid) (y x : ℕ) → length g.rows ≤ y → glyph_at g y x ≡ Other
unfolding slot_at
glyph-below g y x h = ap (λ (row : List Slot). (get_or row x no_slot).glyph) (get_or-eq_default g.rows [] h)

glyph-beside : (g : Grid) (y x : ℕ) → length (get_or g.rows y []) ≤ x → glyph_at g y x ≡ Other
unfolding slot_at
glyph-beside g y x h = ap (λ (s : Slot). s.glyph) (get_or-eq_default (get_or g.rows y []) no_slot h)

-- an array's grid has the rows and columns that it is given
module _ (height width : ℕ) (glyphs : List ℕ) where
  array-tall : length (array_grid height width glyphs).rows ≡ height
  unfolding array_grid
  array-tall = length-map (up_to height) _ ∙ length-range 0 height

  array-wide : (y : ℕ) → y < height → length (get_or (array_grid height width glyphs).rows y []) ≡ width
  unfolding array_grid
  array-wide y h = ap length (get_or-made (λ y. map (λ x. record { glyph = code_glyph (code_at glyphs y x); byte = 0 }) (up_to width)) height y [] h) ∙ length-map (up_to width) _ ∙ length-range 0 width

-- arrays that hold the rows of a filled drawing have its glyphs
module _ (lines : List Line) (glyphs offsets : List ℕ) (filled : wrong_width (grid_of lines) ≡ none) (h : Holds (grid_of lines).rows (grid_of lines).width glyphs offsets) where
  same-glyph : (y x : ℕ) → glyph_at (grid_of lines) y x ≡ glyph_at (array_grid (length lines) (grid_of lines).width glyphs) y x
  same-glyph y x = ⊎_elim below above (le-or-lt (length lines) y) where
    below : length lines ≤ y → glyph_at (grid_of lines) y x ≡ glyph_at (array_grid (length lines) (grid_of lines).width glyphs) y x
    below past = glyph-below (grid_of lines) y x (omega (arith, rows-length lines)) ∙ sym (glyph-below (array_grid (length lines) (grid_of lines).width glyphs) y x (omega (arith, array-tall (length lines) (grid_of lines).width glyphs)))

    above : y < length lines → glyph_at (grid_of lines) y x ≡ glyph_at (array_grid (length lines) (grid_of lines).width glyphs) y x
    above low = ⊎_elim beside inside (le-or-lt (grid_of lines).width x) where
      tall : y < length (grid_of lines).rows
      tall = omega (arith, rows-length lines)

      full : length (get_or (grid_of lines).rows y []) ≡ (grid_of lines).width
      full = row-filled (grid_of lines) filled y tall

      beside : (grid_of lines).width ≤ x → glyph_at (grid_of lines) y x ≡ glyph_at (array_grid (length lines) (grid_of lines).width glyphs) y x
      beside past =
          glyph-beside (grid_of lines) y x (omega (arith, full))
          ∙ sym (glyph-beside (array_grid (length lines) (grid_of lines).width glyphs) y x (omega (arith, array-wide (length lines) (grid_of lines).width glyphs y low)))

      inside : x < (grid_of lines).width → glyph_at (grid_of lines) y x ≡ glyph_at (array_grid (length lines) (grid_of lines).width glyphs) y x
      inside wide =
          sym (held-glyph (grid_of lines) glyphs offsets h y x tall wide full)
          ∙ sym (array-glyph (length lines) (grid_of lines).width glyphs y x low wide)

  pub array_same : SameGlyphs (grid_of lines) (array_grid (length lines) (grid_of lines).width glyphs)
  unfolding array_grid grid_of
  array_same = record { width = refl; height = refl; glyphs = same-glyph }
