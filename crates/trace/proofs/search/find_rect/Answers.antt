use native.Mathlib.Omega.{arith}
use Rattle.trace.proofs.search.SearchLaws.{none_found, one_found, no-corner}
use Rattle.trace.proofs.search.find_rect.Goals as goal

pub returns-then-glyphs-start-ne-PLUS : goal.returns-then-glyphs-start-ne-PLUS
returns-then-glyphs-start-ne-PLUS c = no-corner _ _ _ _ _ _ _ c.args.borders.now.ready c.if-glyphs-start-ne-PLUS.true

pub returns-then-b-down : goal.returns-then-b-down
returns-then-b-down c =
    one_found _ _ _ _ _ _ _ _ _ c.loop-c.invariant.1 c.args.borders.now.ready c.requires.0 c.requires.1 c.if-glyphs-start-ne-PLUS.false (omega arith) c.if-glyphs-below-eq-PLUS.true (omega arith)
    c.if-glyphs-beside-eq-PLUS.true c.if-b-down.true

pub returns-after-loop-b : goal.returns-after-loop-b
returns-after-loop-b c = none_found _ _ _ _ _ _ _ _ _ c.loop-b.invariant.1 c.args.borders.now.ready (omega arith)
