-- `input_lines::find_feed` meets its contract. The invariant: the lines from `from` on start with the bytes passed.
use Prim.Native.Nat.{◌-◌, ◌≤◌}
use mathlib.Core.Path.{◌≡◌}
use lib.ListN.{length, take, drop}
use Rattle.grid.specs.Listing.{split_lines}
use Rattle.input_lines.specs.Splitting.{onto}
use Rattle.input_lines.proofs.find_feed.Given as goal

abbrev pub invariant-loop-i : goal.invariant-loop-i
invariant-loop-i l = (l.from ≤ l.i) × (l.i ≤ length l.input) × (split_lines (drop l.from l.input) ≡ onto (take (l.i - l.from) (drop l.from l.input)) (split_lines (drop l.i l.input)))
