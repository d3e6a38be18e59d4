-- `table_checks::rules::all_inside` meets its contract. The invariant: all cells are inside where those from k on are.
use mathlib.Core.Path.{◌≡◌}
use lib.ListN.{drop}
use Rattle.seq.specs.Lists.{all}
use Rattle.drawing.specs.GridRules.{stays_inside, all_inside}
use Rattle.table_checks.specs.Shapes.{grid_of}
use Rattle.table_checks.proofs.rules.all_inside.Given as goal

abbrev pub invariant-loop-k : goal.invariant-loop-k
invariant-loop-k l = let t = grid_of l.shape in all_inside t ≡ all (stays_inside t) (drop l.k t.cells)
