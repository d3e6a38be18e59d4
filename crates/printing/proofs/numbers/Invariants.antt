-- `printing::numbers` meets its contract. The invariant: the first i numbers are written.
use Prim.Native.Nat.{◌+◌, ◌*◌, ◌≤◌}
use lib.ListN.{length, take}
use Rattle.printing.specs.Printing.{Put, spaced}
use Rattle.printing.proofs.numbers.Given as goal

abbrev pub invariant-loop-value : goal.invariant-loop-value
invariant-loop-value l = (l.value-index ≤ length l.values) × (l.at + 21 * length l.values ≤ length l.initial.out) × Put (21 * l.value-index) l.initial.out l.out l.at l.end (spaced (take l.value-index l.values))
