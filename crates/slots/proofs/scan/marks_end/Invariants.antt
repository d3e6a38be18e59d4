-- `slots::scan::marks_end` meets its contract. The invariant: the characters up to `byte` are marks.
use Prim.Native.Nat.{◌-◌}
use lib.ListN.{length}
use Rattle.slots.specs.Scan.{MarksPassed}
use Rattle.slots.proofs.scan.marks_end.Given as goal

abbrev pub invariant-loop-byte : goal.invariant-loop-byte
invariant-loop-byte l = MarksPassed l.line l.initial.byte l.byte

abbrev pub decreases-loop-byte : goal.decreases-loop-byte
decreases-loop-byte l = length l.line - l.byte
