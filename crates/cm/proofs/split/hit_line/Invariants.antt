-- `cm::split::hit_line` meets its contract. The invariant: the characters before byte are counted, in n columns.
use Prim.Native.Nat.{◌-◌}
use lib.ListN.{length}
use Rattle.cm.proofs.split.HitLaws.{HitSoFar}
use Rattle.cm.proofs.split.hit_line.Given as goal

abbrev pub invariant-loop-byte : goal.invariant-loop-byte
invariant-loop-byte l = HitSoFar l.line l.first l.from.0 l.i l.initial.lines l.lines l.byte l.n

abbrev pub decreases-loop-byte : goal.decreases-loop-byte
decreases-loop-byte l = length l.line - l.byte
