-- `rule_lines::trim::trim_end` meets its contract. The invariant: trimming the first i bytes gives what trimming all gives.
use Prim.Native.Nat.{◌≤◌}
use mathlib.Core.Path.{◌≡◌}
use lib.ListN.{length, take}
use Rattle.text.specs.Trim.{trim_end}
use Rattle.rule_lines.proofs.trim.trim_end.Given as goal

abbrev pub invariant-loop-i : goal.invariant-loop-i
invariant-loop-i l = (l.i ≤ length l.text) × (trim_end l.text ≡ trim_end (take l.i l.text))
