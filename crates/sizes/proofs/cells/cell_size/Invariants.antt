-- `sizes::cells::cell_size` meets its contract. The invariant: the first i lines are measured.
use Prim.Native.Nat.{◌-◌, ◌≤◌}
use Rattle.sizes.proofs.cells.SizeLaws.{Sizing}
use Rattle.sizes.proofs.cells.cell_size.Given as goal

abbrev pub invariant-loop-i : goal.invariant-loop-i
invariant-loop-i l = Sizing l.text l.starts l.ends l.first l.lines l.columns l.i
