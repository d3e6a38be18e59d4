-- `sizes::fit::raise_singles` meets its contract. The invariant: the first k needs had their turn.
use Prim.Native.Nat.{◌-◌, ◌≤◌}
use Rattle.drawing.specs.Sizes.{raise_single}
use Rattle.sizes.proofs.fit.TurnLaws.{Turning}
use Rattle.sizes.proofs.fit.raise_singles.Given as goal

abbrev pub invariant-loop-k : goal.invariant-loop-k
invariant-loop-k l = Turning l.cells l.n l.from_at l.span_at l.needs l.initial.raised raise_single 65535 l.raised l.k
