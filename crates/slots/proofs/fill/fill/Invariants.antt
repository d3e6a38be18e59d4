-- `slots::fill::fill` meets its contract: the invariant: the lines before y hold their slots, those from y on are as scanning left them.
use mathlib.Core.Path.{◌≡◌}
use lib.ListN.{length}
use Rattle.slots.proofs.fill.SheetLaws.{EachSoFar}
use Rattle.slots.proofs.fill.fill.Given as goal

abbrev pub invariant-loop-y : goal.invariant-loop-y
invariant-loop-y l = (length l.glyphs ≡ length l.initial.glyphs) × (length l.offsets ≡ length l.initial.offsets)
    × EachSoFar l.lengths l.text l.width.0 l.counts l.initial.glyphs l.initial.offsets l.glyphs l.offsets l.separators l.at l.y
