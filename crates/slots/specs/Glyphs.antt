-- The glyph of a slot, and its number in an array.
use Rattle.std.specs.Prelude.{ℕ, ◌≡◌}
use Rattle.grid.specs.Slots as grid
use Rattle.representation.specs.Arrays.{glyph_code}
use Rattle.slots.specs.declared.glyphs.Glyph.{Glyph}
use Rattle.slots.specs.declared.glyphs.Glyph.TheVariants.{Other, Dash, Pipe, Plus}

abbrev pub glyph_in : Glyph → grid.Glyph
glyph_in Other = grid.Other
glyph_in Dash = grid.Dash
glyph_in Pipe = grid.Pipe
glyph_in Plus = grid.Plus

abbrev pub IsGlyphCode : Glyph → ℕ → Type 0
IsGlyphCode glyph code = code ≡ glyph_code (glyph_in glyph)
