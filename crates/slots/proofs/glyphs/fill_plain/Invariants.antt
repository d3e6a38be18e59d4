-- `slots::glyphs::fill_plain` meets its contract: the invariant: the first n bytes are written.
use Rattle.slots.proofs.glyphs.PlainLaws.{PlainSoFar}
use Rattle.slots.proofs.glyphs.fill_plain.Given as goal

abbrev pub invariant-loop-n : goal.invariant-loop-n
invariant-loop-n l = PlainSoFar l.line l.rule l.at l.initial.glyphs l.initial.offsets l.glyphs l.offsets l.n
