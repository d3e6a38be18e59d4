-- `sizes::borders::start_widths` meets its contract. The invariant: the first k widths have started.
use Prim.Native.Nat.{◌-◌, ◌≤◌}
use Rattle.sizes.proofs.borders.StartLaws.{Starting}
use Rattle.sizes.proofs.borders.start_widths.Given as goal

abbrev pub invariant-loop-k : goal.invariant-loop-k
invariant-loop-k l = Starting l.cols l.columns l.sizes l.k
