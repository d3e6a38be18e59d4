-- What tracing over arrays answers, in the terms of the grid.
use Rattle.std.specs.Prelude.{ℕ, ◌-◌, ◌≡◌, List, Result, Ok, Err}
use Rattle.grid.specs.Trace.{Traced, covered, stopped, lowest, leftmost}
use Rattle.refusals.specs.Refusal.{number_of}
use Rattle.refusals.specs.declared.Refusal.{Refusal}
use Rattle.representation.specs.Arrays.{rects_of}
use Rattle.trace.specs.Skylines.{sky_of}
use Rattle.trace.specs.declared.skyline.Skyline.{Skyline}
use Rattle.trace.specs.declared.skyline.Corner.{Corner}

-- the skyline of a grid this wide, and its leftmost lowest column
pub record Lowest (width : ℕ) (s : Skyline) (c : Corner) : Type 0 where
  pub columns : s.used ≡ width - 1
  pub at_lowest : c.top ≡ lowest (sky_of s)
  pub at_leftmost : c.left ≡ leftmost (sky_of s)

-- tracing's answer with the rectangles that it wrote
abbrev pub traced_of : Result ℕ Refusal → List ℕ → Traced
traced_of (Ok n) rects = covered (rects_of n rects)
traced_of (Err e) rects = stopped (number_of e)

abbrev pub count_of : Result ℕ Refusal → ℕ
count_of (Ok n) = n
count_of (Err e) = 0
