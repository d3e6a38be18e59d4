-- `table_checks::rules::in_order` meets its contract. The invariant: all cells are in order where those from k - 1 on are.
use Prim.Native.Nat.{◌-◌}
use mathlib.Core.Path.{◌≡◌}
use lib.ListN.{drop}
use Rattle.seq.specs.Lists.{neighbours}
use Rattle.drawing.specs.GridRules.{comes_before}
use Rattle.table_checks.specs.Places.{places_of}
use Rattle.table_checks.proofs.rules.in_order.Given as goal

abbrev pub invariant-loop-k : goal.invariant-loop-k
invariant-loop-k l = neighbours comes_before (places_of l.n l.cells) ≡ neighbours comes_before (drop (l.k - 1) (places_of l.n l.cells))
