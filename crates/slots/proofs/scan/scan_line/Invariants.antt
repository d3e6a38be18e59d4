-- `slots::scan::scan_line` meets its contract.
use Prim.Native.Nat.{◌-◌}
use lib.ListN.{length}
use Rattle.slots.proofs.scan.ScanLaws.{ScanSoFar}
use Rattle.slots.proofs.scan.scan_line.Given as goal

abbrev pub invariant-loop-byte : goal.invariant-loop-byte
invariant-loop-byte l = ScanSoFar l.line l.first l.at l.initial.glyphs l.initial.offsets l.glyphs l.offsets l.byte l.n

abbrev pub decreases-loop-byte : goal.decreases-loop-byte
decreases-loop-byte l = length l.line - l.byte
