use Rattle.layout.proofs.range_entries.RangesLaws.{ranges_counted-none, ranges_counted-next, ranges_counted-all}
use native.Mathlib.Omega.{arith}
use Rattle.representation.proofs.RectsHeld.{rect_inside}
use borrow.Author.Rules.{rules}
use Rattle.layout.proofs.range_entries.count_ranges.Goals as goal

pub loop-k-init : goal.loop-k-init
loop-k-init c = search (rules, ranges_counted-none)

pub overflow_sub-count : goal.overflow_sub-count
overflow_sub-count c = omega (arith, (rect_inside c.args.rects c.loop-k.k c.loop-k-test.true c.at-rect.result c.at-rect.ensures.is c.requires).down)

pub overflow_sub-count-in-loop-k : goal.overflow_sub-count-in-loop-k
overflow_sub-count-in-loop-k c = omega (arith, (rect_inside c.args.rects c.loop-k.k c.loop-k-test.true c.at-rect.result c.at-rect.ensures.is c.requires).down)

pub loop-k-preserved : goal.loop-k-preserved
loop-k-preserved c =
    ranges_counted-next c.args.rects _ _ c.loop-k.invariant c.loop-k-test.true c.at-rect.result c.at-rect.ensures.is
    (rect_inside c.args.rects c.loop-k.k c.loop-k-test.true c.at-rect.result c.at-rect.ensures.is c.requires)

pub returns : goal.returns
returns c = search (rules, ranges_counted-all)
