-- `slots::glyphs::Glyph::of` meets its contract: by the code's tests in their order.
use native.Mathlib.Omega.{arith}
use Rattle.slots.proofs.glyphs.GlyphLaws.{glyph-plus, glyph-rule, glyph-dash, glyph-pipe, glyph-other}
use Rattle.slots.proofs.glyphs.Glyph.of.Goals as goal

pub returns-in_default : goal.returns-in_default
returns-in_default c = glyph-rule _ _ (λ e. omega arith) c.if-rule.true

pub returns-in-45 : goal.returns-in-45
returns-in-45 c = glyph-dash _ _ c.if-rule.false c.in-45.is

pub returns-in-124 : goal.returns-in-124
returns-in-124 c = glyph-pipe _ _ c.if-rule.false c.in-124.is

pub returns-in_default-2 : goal.returns-in_default-2
returns-in_default-2 c = glyph-other _ _ c.if-rule.false (λ e. omega arith) (λ e. omega arith) (λ e. omega arith)

pub returns-in-43 : goal.returns-in-43
returns-in-43 c = glyph-plus _ _ c.in-43.is
