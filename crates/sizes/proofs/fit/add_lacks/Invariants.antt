-- `sizes::fit::add_lacks` meets its contract. The invariant: the first k needs had their turn.
use Prim.Native.Nat.{◌+◌, ◌*◌, ◌-◌, ◌≤◌}
use Rattle.drawing.specs.Sizes.{add_lack}
use Rattle.sizes.proofs.fit.TurnLaws.{Turning}
use Rattle.sizes.proofs.fit.add_lacks.Given as goal

abbrev pub invariant-loop-k : goal.invariant-loop-k
invariant-loop-k l = Turning l.cells l.n l.from_at l.span_at l.needs l.initial.grown add_lack (65535 * (l.k + 1)) l.grown l.k
