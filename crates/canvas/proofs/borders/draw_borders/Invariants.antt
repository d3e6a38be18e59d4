-- `canvas::borders::draw_borders` meets its contract: the borders of the first k cells stand.
use mathlib.Core.Path.{◌≡◌}
use lib.ListN.{length}
use Rattle.canvas.specs.Painting.{Drawn, bordered}
use Rattle.canvas.proofs.borders.draw_borders.Given as goal

abbrev pub invariant-loop-k : goal.invariant-loop-k
invariant-loop-k l = (length l.canvas ≡ length l.initial.canvas) × Drawn (bordered l.rules l.rects l.k) l.initial.canvas l.canvas
