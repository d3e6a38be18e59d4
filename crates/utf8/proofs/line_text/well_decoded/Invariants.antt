-- `utf8::line_text::well_decoded` meets its contract: the invariant: the line is well formed where the bytes from `at` on are.
use Prim.Native.Nat.{◌≤◌, ◌-◌}
use mathlib.Core.Path.{◌≡◌}
use lib.ListN.{length, drop}
use Rattle.text.specs.Utf8.{well_from, well_formed}
use Rattle.utf8.proofs.line_text.well_decoded.Given as goal

abbrev pub invariant-loop-at : goal.invariant-loop-at
invariant-loop-at l = (l.at ≤ length l.line) × (well_formed l.line ≡ well_from 0 (drop l.at l.line))

abbrev pub decreases-loop-at : goal.decreases-loop-at
decreases-loop-at l = length l.line - l.at
