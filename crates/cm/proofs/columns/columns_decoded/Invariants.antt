-- `cm::columns::columns_decoded` meets its contract. The invariant: the characters before byte take n columns.
use Prim.Native.Nat.{◌-◌}
use lib.ListN.{length}
use Rattle.cm.proofs.columns.WalkLaws.{Walked}
use Rattle.cm.proofs.columns.columns_decoded.Given as goal

abbrev pub invariant-loop-byte : goal.invariant-loop-byte
invariant-loop-byte l = Walked l.line l.first l.byte l.n

abbrev pub decreases-loop-byte : goal.decreases-loop-byte
decreases-loop-byte l = length l.line - l.byte
