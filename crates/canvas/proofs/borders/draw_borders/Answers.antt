use mathlib.Core.Path.{refl}
use borrow.Author.Rules.{rules}
use Rattle.canvas.proofs.SlotLaws.{rect-inside}
use Rattle.canvas.proofs.borders.BorderLaws.{borders-start, borders-next}
use Rattle.canvas.proofs.borders.draw_borders.Goals as goal

pub loop-k-init : goal.loop-k-init
loop-k-init c = (refl, borders-start _ _ _)

pub draw_sides-requires-clause-inside : goal.draw_sides-requires-clause-inside
draw_sides-requires-clause-inside c = rw c.at-rect.ensures (rect-inside _ _ _ c.requires.inside c.loop-k-test.true)

pub draw_ends-requires-clause-inside : goal.draw_ends-requires-clause-inside
draw_ends-requires-clause-inside c = rw c.at-rect.ensures (rect-inside _ _ _ c.requires.inside c.loop-k-test.true)

pub loop-k-preserved : goal.loop-k-preserved
loop-k-preserved c =
    (search rules, borders-next _ _ _ _ _ _ _ c.loop-k.invariant.1 (rw c.at-rect.ensures at c.draw_sides.ensures) (rw c.at-rect.ensures at c.draw_ends.ensures))
