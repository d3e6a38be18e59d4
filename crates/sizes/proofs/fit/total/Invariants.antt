-- `sizes::fit::total` meets its contract. The invariant: the first i sizes from `from` on are added.
use Prim.Native.Nat.{◌-◌, ◌≤◌}
use Rattle.sizes.proofs.fit.TotalLaws.{Totalling}
use Rattle.sizes.proofs.fit.total.Given as goal

abbrev pub invariant-loop-i : goal.invariant-loop-i
invariant-loop-i l = Totalling l.from l.span l.sizes l.sum l.i
