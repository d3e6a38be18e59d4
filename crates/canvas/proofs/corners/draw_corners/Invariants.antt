-- `canvas::corners::draw_corners` meets its contract: the corners of the first k cells stand.
use mathlib.Core.Path.{◌≡◌}
use lib.ListN.{length}
use Rattle.canvas.specs.Painting.{Drawn, all_cornered}
use Rattle.canvas.proofs.corners.draw_corners.Given as goal

abbrev pub invariant-loop-k : goal.invariant-loop-k
invariant-loop-k l = (length l.canvas ≡ length l.initial.canvas) × Drawn (all_cornered l.rects l.k) l.initial.canvas l.canvas
