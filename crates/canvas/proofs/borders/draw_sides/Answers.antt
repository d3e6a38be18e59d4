use borrow.Author.Rules.{rules}
use Rattle.canvas.proofs.borders.SideLaws.{sides-start, sides-next, sides-end}
use Rattle.canvas.proofs.borders.draw_sides.Goals as goal

pub loop-y-init : goal.loop-y-init
loop-y-init c = sides-start _ _ _

pub loop-y-preserved : goal.loop-y-preserved
loop-y-preserved c = sides-next _ _ _ _ _ c.loop-y.invariant c.requires.inside c.requires.room c.loop-y-test.true

pub returns : goal.returns
returns c = search (rules, sides-end)
