-- `utf8::columns::added_columns` meets its contract. The invariant: the bytes before i add so many columns.
use Prim.Native.Nat.{◌-◌}
use lib.ListN.{length}
use Rattle.text.proofs.ByteColumnsLaws.{Added}
use Rattle.utf8.proofs.columns.added_columns.Given as goal

abbrev pub invariant-loop-b : goal.invariant-loop-b
invariant-loop-b l = Added l.line l.b-index l.n
