-- `sizes::cells::measure_cells` meets its contract. The invariant: the first k cells are counted, and `first` is the number of lines they have.
use Prim.Native.Nat.{◌-◌, ◌≤◌}
use Rattle.sizes.proofs.cells.CountLaws.{Counting}
use Rattle.sizes.proofs.cells.measure_cells.Given as goal

abbrev pub invariant-loop-k : goal.invariant-loop-k
invariant-loop-k l = Counting l.cells l.text l.starts l.ends l.n l.initial.firsts l.initial.heights l.initial.wides l.firsts l.heights l.wides l.first l.k
