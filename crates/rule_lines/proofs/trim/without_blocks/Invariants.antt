-- `rule_lines::trim::without_blocks` meets its contract. The invariant: trimming the first n bytes gives what trimming all gives.
use Prim.Native.Nat.{◌≤◌}
use mathlib.Core.Path.{◌≡◌}
use lib.ListN.{length, take}
use Rattle.text.specs.Trim.{trim_end}
use Rattle.rule_lines.proofs.trim.without_blocks.Given as goal

abbrev pub invariant-loop-n : goal.invariant-loop-n
invariant-loop-n l = (l.n ≤ length l.text) × (trim_end l.text ≡ trim_end (take l.n l.text))

abbrev pub decreases-loop-n : goal.decreases-loop-n
decreases-loop-n l = l.n
