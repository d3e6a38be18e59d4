-- `cm::draw::write_sizes` meets its contract. The invariant: the first y lengths are written.
use mathlib.Core.Path.{◌≡◌}
use lib.ListN.{length, take}
use Rattle.grid.specs.Answer.{over}
use Rattle.cm.proofs.draw.write_sizes.Given as goal

abbrev pub invariant-loop-y : goal.invariant-loop-y
invariant-loop-y l = (l.out_lengths ≡ over (take l.y l.sizes.lengths) l.initial.out_lengths) × (length l.out_lengths ≡ length l.initial.out_lengths)
