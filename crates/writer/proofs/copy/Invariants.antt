-- `writer::copy` meets its contract. The invariant: the first i bytes are written.
use Prim.Native.Nat.{◌+◌}
use lib.ListN.{take}
use Rattle.writer.specs.Writing.{Wrote}
use Rattle.writer.proofs.copy.Given as goal

abbrev pub invariant-loop-i : goal.invariant-loop-i
invariant-loop-i l = Wrote l.initial.out l.at (take l.i l.bytes) l.out (l.at + l.i)
