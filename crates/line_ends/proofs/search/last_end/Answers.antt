-- `line_ends::search::last_end` meets its contract: each end is before those behind it, or passed over.
use Rattle.std.proofs.Common.{◌≡◌, ◌∙◌, ap, arith}
use Rattle.line_ends.specs.Search.{register_of}
use Rattle.line_ends.proofs.search.SearchLaws.{behind, behind-none, behind-past, behind-here, behind-all}
use Rattle.line_ends.proofs.search.last_end.Goals as goal

pub loop-i-init : goal.loop-i-init
loop-i-init c = (behind-none _ _ _, tt)

pub loop-i-preserved-then-end_reaches : goal.loop-i-preserved-then-end_reaches
loop-i-preserved-then-end_reaches c =
    let here = behind-here (register_of c.args.register) c.args.line c.args.column c.loop-i.i c.loop-i-test.true c.loop-i.auto.i in
    (grind (arith, here), c.later_of.ensures.one_of_them)

pub loop-i-preserved : goal.loop-i-preserved
loop-i-preserved c =
    let past = behind-past (register_of c.args.register) c.args.line c.args.column c.loop-i.i c.loop-i-test.true c.loop-i.auto.i in
    (grind (arith, past), c.loop-i.invariant.1)

pub returns-clause-last : goal.returns-clause-last
returns-clause-last c =
    let zero_left : c.loop-i.i ≡ 0 = omega arith in
    c.loop-i.invariant.0 ∙ ap (behind _ _ _) zero_left ∙ behind-all _ _ _
