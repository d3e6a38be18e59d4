-- Laws of a cell's kept lines: they are its first cut lines, up to the last that is not empty.
use Prim.Native.Nat.{◌+◌, ◌-◌, ◌≤◌}
use mathlib.Core.Path.{◌≡◌, ◌∙◌}
use mathlib.Core.List.{map}
use native.Mathlib.Omega.{arith}
use lib.ListN.{length, length-map}
use Rattle.seq.specs.Lists.{range}
use Rattle.seq.proofs.Ranges.{length-range, first-of-range}
use Rattle.grid.specs.Values.{Rect}
use Rattle.grid.proofs.CellLaws.{dropped-fewer, dropped-first}
use Rattle.cell.specs.Text.{Source, cut_between, cut_lines, kept_lines}

module _ (s : Source) (r : Rect) where
  pub kept-inner : length (kept_lines s r) ≤ r.bottom - r.top - 1
  kept-inner = omega (arith, dropped-fewer (cut_lines s r), length-map (range (r.top + 1) (r.bottom - r.top - 1)) (cut_between s r.left r.right), length-range (r.top + 1) (r.bottom - r.top - 1))

  -- a rectangle's kept lines, by their number
  pub kept-cuts : kept_lines s r ≡ map (cut_between s r.left r.right) (range (r.top + 1) (length (kept_lines s r)))
  kept-cuts = dropped-first (cut_lines s r) ∙ first-of-range (cut_between s r.left r.right) (r.top + 1) (r.bottom - r.top - 1) (length (kept_lines s r)) kept-inner
