-- `sizes::borders::offsets` meets its contract. The invariant: the offsets up to i are known.
use Prim.Native.Nat.{◌-◌, ◌≤◌}
use Rattle.sizes.proofs.borders.OffsetLaws.{Adding}
use Rattle.sizes.proofs.borders.offsets.Given as goal

abbrev pub invariant-loop-i : goal.invariant-loop-i
invariant-loop-i l = Adding l.count l.sizes l.at l.i
