-- `sizes::lines::trim_lines` meets its contract. The invariant: the first i lines are trimmed, and `at` is where line i starts.
use Prim.Native.Nat.{◌-◌, ◌≤◌}
use lib.ListN.{length}
use Rattle.sizes.proofs.lines.TrimmedLaws.{Trimming}
use Rattle.sizes.proofs.lines.trim_lines.Given as goal

abbrev pub invariant-loop-i : goal.invariant-loop-i
invariant-loop-i l = Trimming l.lengths l.text l.initial.starts l.initial.ends l.starts l.ends l.at l.i
