use mathlib.Core.Path.{refl}
use borrow.Author.Rules.{rules}
use Rattle.canvas.proofs.SlotLaws.{rect-inside}
use Rattle.canvas.proofs.corners.CornerLaws.{corners-start, corners-next}
use Rattle.canvas.proofs.corners.draw_corners.Goals as goal

pub loop-k-init : goal.loop-k-init
loop-k-init c = (refl, corners-start _ _)

pub put_corners-requires-clause-inside : goal.put_corners-requires-clause-inside
put_corners-requires-clause-inside c = rw c.at.ensures (rect-inside _ _ _ c.requires.inside c.loop-k-test.true)

pub loop-k-preserved : goal.loop-k-preserved
loop-k-preserved c = (search rules, corners-next _ _ _ _ _ c.loop-k.invariant.1 (rw c.at.ensures at c.put_corners.ensures))
