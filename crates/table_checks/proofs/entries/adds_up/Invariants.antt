-- `table_checks::entries::adds_up` meets its contract. The invariant: the entries add up where those that are left add up to what is missing.
use Prim.Native.Nat.{◌+◌, ◌-◌, ◌*◌}
use mathlib.Core.Path.{◌≡◌}
use lib.Dec.{eqb}
use Rattle.seq.specs.Lists.{sum}
use Rattle.table_checks.specs.Entries.{entries}
use Rattle.table_checks.proofs.entries.adds_up.Given as goal

abbrev pub invariant-loop-k : goal.invariant-loop-k
invariant-loop-k l =
    eqb (sum (entries l.from l.step l.count l.numbers)) l.total
    ≡ eqb (sum (entries (l.step * l.k + l.from) l.step (l.count - l.k) l.numbers)) l.missing
