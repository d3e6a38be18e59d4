-- The cut lines of a cell in numbers, from the arrays that reading a drawing leaves.
use Rattle.std.specs.Prelude.{List, map}
use Rattle.grid.specs.Values.{Rect}
use Rattle.grid.specs.Layout.{inner_lines}
use Rattle.grid.specs.CutCall.{CutNumbers, cut_numbers}
use Rattle.cell.specs.Text.{Source, fragment_between}

-- the cut lines of a rectangle in numbers
abbrev pub cuts_of : Source → Rect → List CutNumbers
cuts_of s r = map (λ y. cut_numbers 0 (fragment_between s r.left r.right y)) (inner_lines r)
