-- `canvas::frames::place_cells` meets its contract: the borders of the first k cells are written.
use Rattle.canvas.proofs.frames.FrameLaws.{FramesSoFar}
use Rattle.canvas.proofs.frames.place_cells.Given as goal

abbrev pub invariant-loop-k : goal.invariant-loop-k
invariant-loop-k l = FramesSoFar l.cells l.xs l.ys l.n l.initial.rects l.rects l.k
