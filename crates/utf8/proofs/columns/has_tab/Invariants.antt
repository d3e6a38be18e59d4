-- `utf8::columns::has_tab` meets its contract. The invariant: there is a tab where there is one before i or from i on.
use Prim.Native.Nat.{◌-◌, ◌≤◌}
use mathlib.Core.Path.{◌≡◌}
use mathlib.Core.Bool.{◌||◌}
use lib.ListN.{length, drop}
use Rattle.seq.specs.Lists.{any}
use Rattle.text.specs.Columns.{is_tab}
use Rattle.utf8.proofs.columns.has_tab.Given as goal

abbrev pub invariant-loop-b : goal.invariant-loop-b
invariant-loop-b l = (l.b-index ≤ length l.line) × (any is_tab l.line ≡ (l.some || any is_tab (drop l.b-index l.line)))
