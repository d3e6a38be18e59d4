-- `input_lines::split_lines` meets its contract. The invariant: the lines up to `at` stand in the arrays.
use Prim.Native.Nat.{◌-◌}
use mathlib.Core.Path.{◌≡◌}
use lib.ListN.{length}
use Rattle.input_lines.specs.Splitting.{Splitting}
use Rattle.input_lines.proofs.split_lines.Given as goal

abbrev pub invariant-loop-at : goal.invariant-loop-at
invariant-loop-at l = (length l.initial.lengths ≡ 128) × (length l.initial.text ≡ 32768) × Splitting l.input l.lengths l.text l.lines l.bytes l.at

abbrev pub decreases-loop-at : goal.decreases-loop-at
decreases-loop-at l = length l.input - l.at
