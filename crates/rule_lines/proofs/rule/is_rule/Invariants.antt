-- `rule_lines::rule::is_rule` meets its contract. The invariant: the line is a rule where what is left is closed segments.
use Prim.Native.Nat.{◌≤◌}
use mathlib.Core.Path.{◌≡◌}
use lib.ListN.{length}
use Rattle.text.specs.Rule.{parts_at_plus, closed_segments, is_rule}
use Rattle.rule_lines.proofs.rule.is_rule.Given as goal

abbrev pub invariant-loop-rest : goal.invariant-loop-rest
invariant-loop-rest l = (length l.rest ≤ length l.text) × (is_rule l.fill l.text ≡ closed_segments l.fill (parts_at_plus l.rest))

abbrev pub decreases-loop-rest : goal.decreases-loop-rest
decreases-loop-rest l = length l.rest
