-- `canvas::borders::draw_sides` meets its contract: the sides stand down to line y.
use Rattle.canvas.proofs.borders.SideLaws.{SidesSoFar}
use Rattle.canvas.proofs.borders.draw_sides.Given as goal

abbrev pub invariant-loop-y : goal.invariant-loop-y
invariant-loop-y l = SidesSoFar l.fn.rect l.number l.initial.canvas l.canvas l.y
