-- The arrays that tracing works on.
use Rattle.std.specs.Prelude.{ℕ, ◌≤◌, List, length}
use Rattle.grid.specs.LayoutCall.{slot_space}
use Rattle.representation.specs.Reach.{ReachRight, ReachDown}

-- glyphs, and how far they reach
pub record Ready (height width : ℕ) (glyphs down right : List ℕ) : Type 0 where
  pub height_fits : height ≤ 128
  pub width_fits : width ≤ 128
  pub glyph_room : slot_space ≤ length glyphs
  pub down_room : slot_space ≤ length down
  pub right_room : slot_space ≤ length right
  pub reach_down : ReachDown height width glyphs down
  pub reach_right : ReachRight height width glyphs right
