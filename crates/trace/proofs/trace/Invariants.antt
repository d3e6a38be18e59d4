-- The invariant: the rectangles written, and then tracing from the skyline that they leave, make the whole trace.
use Prim.Native.Nat.{◌-◌, ◌<◌}
use mathlib.Core.Path.{◌≡◌}
use lib.ListN.{length}
use Rattle.trace.proofs.TracingLaws.{Tracing}
use Rattle.trace.proofs.trace.Given as goal

abbrev pub invariant-loop-corner : goal.invariant-loop-corner
invariant-loop-corner l = (length l.rects ≡ length l.initial.rects) × (1 < l.borders.height) × Tracing l.borders.height l.borders.width l.borders.glyphs.now l.rects l.sky l.corner l.n

abbrev pub decreases-loop-corner : goal.decreases-loop-corner
decreases-loop-corner l = 1024 - l.n
