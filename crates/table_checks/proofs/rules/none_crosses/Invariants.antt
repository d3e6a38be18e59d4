-- `table_checks::rules::none_crosses` meets its contract. The invariant: no cell crosses where none from k on does.
use mathlib.Core.Path.{◌≡◌}
use lib.ListN.{drop}
use Rattle.seq.specs.Lists.{all}
use Rattle.drawing.specs.GridRules.{none_crosses}
use Rattle.table_checks.specs.Shapes.{grid_of}
use Rattle.table_checks.proofs.rules.SectionLaws.{stays_whole}
use Rattle.table_checks.proofs.rules.none_crosses.Given as goal

abbrev pub invariant-loop-k : goal.invariant-loop-k
invariant-loop-k l = let t = grid_of l.shape in none_crosses t ≡ all (stays_whole t) (drop l.k t.cells)
