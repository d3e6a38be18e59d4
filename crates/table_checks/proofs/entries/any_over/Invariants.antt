-- `table_checks::entries::any_over` meets its contract. The invariant: any entry is over the limit where any that is left is.
use Prim.Native.Nat.{◌+◌, ◌-◌, ◌*◌}
use mathlib.Core.Path.{◌≡◌}
use Rattle.reading.specs.Agreement.{any_over}
use Rattle.table_checks.specs.Entries.{entries}
use Rattle.table_checks.proofs.entries.any_over.Given as goal

abbrev pub invariant-loop-k : goal.invariant-loop-k
invariant-loop-k l =
    any_over l.limit (entries l.from l.step l.count l.numbers) ≡ any_over l.limit (entries (l.step * l.k + l.from) l.step (l.count - l.k) l.numbers)
