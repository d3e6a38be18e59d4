-- Laws of a character's glyph, in the order of the code's tests.
use Prim.Native.Nat.{ℕ}
use mathlib.Core.Path.{◌≡◌}
use mathlib.Core.Bool.{Bool, true, false}
use borrow.Author.Tests.{ne_eqb}
use Rattle.grid.specs.Slots.{Plus, Dash, Pipe, Other, glyph_of}

module _ (rule : Bool) (value : ℕ) where
  pub glyph-plus : value ≡ 0x2b → Plus ≡ glyph_of rule value
  unfolding glyph_of
  glyph-plus e = rw e

  pub glyph-rule : (value ≡ 0x2b → ⊥) → rule ≡ true → Dash ≡ glyph_of rule value
  unfolding glyph_of
  glyph-rule no_plus e = rw (ne_eqb value 0x2b no_plus, e)

  module _ (no-rule : rule ≡ false) where
    pub glyph-dash : value ≡ 0x2d → Dash ≡ glyph_of rule value
    unfolding glyph_of
    glyph-dash e = rw (no-rule, e)

    pub glyph-pipe : value ≡ 0x7c → Pipe ≡ glyph_of rule value
    unfolding glyph_of
    glyph-pipe e = rw (no-rule, e)

    pub glyph-other : (value ≡ 0x2b → ⊥) → (value ≡ 0x2d → ⊥) → (value ≡ 0x7c → ⊥) → Other ≡ glyph_of rule value
    unfolding glyph_of
    glyph-other no_plus no-dash no-pipe = rw (no-rule, ne_eqb value 0x2b no_plus, ne_eqb value 0x2d no-dash, ne_eqb value 0x7c no-pipe)
