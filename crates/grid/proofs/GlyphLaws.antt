-- Tracing looks at a grid's width, height and glyphs, and at nothing else.
use Prim.Native.Nat.{ℕ, zero, suc}
use mathlib.Core.Path.{◌≡◌}
use mathlib.Core.List.{List}
use Rattle.grid.specs.Values.{Rect}
use Rattle.grid.specs.Slots.{Grid, glyph_at}
use Rattle.grid.specs.Rectangle.{across, down, bordered, first_rect}
use Rattle.grid.specs.Trace.{next_rect, trace_from, trace}

-- two grids of one size with the same glyphs
pub record SameGlyphs (g k : Grid) : Type 0 where
  pub width : g.width ≡ k.width
  pub height : g.height ≡ k.height
  pub glyphs : (y x : ℕ) → glyph_at g y x ≡ glyph_at k y x

module _ (g k : Grid) (same : SameGlyphs g k) where
  bordered-same : (r : Rect) → bordered g r ≡ bordered k r
  unfolding bordered across down
  bordered-same r = simp same.glyphs

  first-same : (t l : ℕ) → first_rect g t l ≡ first_rect k t l
  unfolding first_rect
  first-same t l = simp (bordered-same, same.width, same.height)

  next-same : (sky : List ℕ) → next_rect g sky ≡ next_rect k sky
  unfolding next_rect
  next-same sky = simp first-same

  trace-from-same : (room : ℕ) (sky : List ℕ) → trace_from g room sky ≡ trace_from k room sky
  unfolding trace_from
  trace-from-same zero sky = simp (next-same, same.height)
  trace-from-same (suc room) sky = simp (next-same, same.height, trace-from-same room)

  pub trace-same : trace g ≡ trace k
  unfolding trace
  trace-same = simp (trace-from-same, same.width, same.height)
