use Prim.Native.Nat.{ℕ, ◌+◌}
use mathlib.Core.Path.{◌≡◌}
use borrow.Author.Rules.{rules}
use lib.Seq.{length-take-le}
use native.Mathlib.Nat.{zero-add}
use Rattle.text.proofs.TrimLaws.{trim-stops, trim-goes-on, trim-leaves-none}
use Rattle.rule_lines.proofs.trim.trim_end.Goals as goal

-- the part from byte 0 of a slice starts where the slice starts
at-start : (p : ℕ × ℕ) → (p.0, 0 + p.1) ≡ p
at-start p i = (p.0, zero-add p.1 i)

pub slice_bounds-result-end : goal.slice_bounds-result-end
slice_bounds-result-end c = search (rules, length-take-le)

pub returns-then-not-is_blank : goal.returns-then-not-is_blank
returns-then-not-is_blank c = search trim-stops

pub loop-i-preserved : goal.loop-i-preserved
loop-i-preserved c = search (rules, trim-goes-on)

pub returns : goal.returns
returns c = (search at-start, search trim-leaves-none)
