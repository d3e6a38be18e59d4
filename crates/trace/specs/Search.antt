-- What the search over arrays answers, in the terms of the grid.
use Rattle.std.specs.Prelude.{ℕ, Option, Some, None}
use Rattle.std.proofs.Math.Option.{Option as Perhaps, none, some}
use Rattle.grid.specs.Values.{Rect}
use Rattle.grid.specs.Slots.{Grid}
use Rattle.representation.specs.Arrays.{array_grid}
use Rattle.trace.specs.declared.borders.Borders.{Borders}
use Rattle.trace.specs.declared.search.FarCorner.{FarCorner}

-- the glyphs as a grid
abbrev pub grid_in : Borders → Grid
grid_in b = array_grid b.height b.width b.glyphs.now

-- what the search found, as a rectangle
abbrev pub found_rect : ℕ → ℕ → Option FarCorner → Perhaps Rect
found_rect top left (Some far) = some (record { top = top; left = left; bottom = far.bottom; right = far.right })
found_rect top left None = none
