use mathlib.Core.Path.{refl, ap, ◌∙◌}
use native.Mathlib.Omega.{arith}
use Rattle.representation.specs.Arrays.{glyph_code}
use Rattle.slots.proofs.glyphs.PlainLaws.{bytes-start, bytes_next}
use Rattle.slots.proofs.glyphs.fill_plain.Goals as goal

pub loop-n-init : goal.loop-n-init
loop-n-init c = search bytes-start

pub loop-n-preserved : goal.loop-n-preserved
loop-n-preserved c = bytes_next _ _ _ _ _ _ _ _ c.loop-n.invariant _ _ (omega arith) c.requires.line_in_bounds.0 c.requires.line_in_bounds.1 refl (c.from.ensures ∙ ap glyph_code c.of.ensures)
