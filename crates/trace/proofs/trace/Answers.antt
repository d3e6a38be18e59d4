use mathlib.Core.Path.{refl}
use borrow.Author.Rules.{rules}
use Rattle.trace.proofs.TracingLaws.{low-grid, thin-grid, tracing-starts, none-stops, full-stops, tracing-ends, tracing-on, put-asked, raised-asked, corner-asked}
use Rattle.trace.proofs.trace.Goals as goal
use Rattle.trace.proofs.trace.Goals.{then-borders-le-SINGLE-via-then-borders-le-SINGLE, then-borders-le-SINGLE-via-else-borders-le-SINGLE+then-borders-le-SINGLE-2}

pub returns-then-borders-le-SINGLE-clause-rects_after : goal.returns-then-borders-le-SINGLE-clause-rects_after
returns-then-borders-le-SINGLE-clause-rects_after c =
    elim c.then-borders-le-SINGLE.branch [
      | then-borders-le-SINGLE-via-then-borders-le-SINGLE w ↦ search low-grid
      | then-borders-le-SINGLE-via-else-borders-le-SINGLE+then-borders-le-SINGLE-2 w ↦ search thin-grid
    ]

pub loop-corner-init : goal.loop-corner-init
loop-corner-init c = (refl, c.if-borders-le-SINGLE.false, tracing-starts _ _ _ _ _ _ c.args.borders.now.ready.height_fits c.args.borders.now.ready.width_fits c.requires refl refl c.if-borders-le-SINGLE.false c.if-borders-le-SINGLE-2.false (search rules) (search rules))

pub returns-in_default-clause-rects_after : goal.returns-in_default-clause-rects_after
returns-in_default-clause-rects_after c = search none-stops

pub returns-then-n-eq-MAX_CELLS-clause-rects_after : goal.returns-then-n-eq-MAX_CELLS-clause-rects_after
returns-then-n-eq-MAX_CELLS-clause-rects_after c = search full-stops

pub put_rect-requires-clause-top_bound : goal.put_rect-requires-clause-top_bound
put_rect-requires-clause-top_bound c = (put-asked c.loop-corner.invariant.2 c.loop-corner-test.true c.next_rect.ensures c.in-Some.is c.if-n-eq-MAX_CELLS.false).1

pub raised-sky-requires : goal.raised-sky-requires
raised-sky-requires c = raised-asked c.loop-corner.invariant.2 c.loop-corner-test.true c.next_rect.ensures c.in-Some.is

pub next_corner-corner-requires-clause-inside : goal.next_corner-corner-requires-clause-inside
next_corner-corner-requires-clause-inside c = (corner-asked c.loop-corner.invariant.2 c.loop-corner-test.true c.next_rect.ensures c.in-Some.is c.raised-sky.result c.raised-sky.ensures).0

pub next_corner-corner-requires-clause-none_below : goal.next_corner-corner-requires-clause-none_below
next_corner-corner-requires-clause-none_below c = (corner-asked c.loop-corner.invariant.2 c.loop-corner-test.true c.next_rect.ensures c.in-Some.is c.raised-sky.result c.raised-sky.ensures).1.0

pub next_corner-corner-requires-clause-above_before : goal.next_corner-corner-requires-clause-above_before
next_corner-corner-requires-clause-above_before c = (corner-asked c.loop-corner.invariant.2 c.loop-corner-test.true c.next_rect.ensures c.in-Some.is c.raised-sky.result c.raised-sky.ensures).1.1

pub loop-corner-preserved : goal.loop-corner-preserved
loop-corner-preserved c = (search rules, search rules, search tracing-on)

pub returns-clause-rects_after : goal.returns-clause-rects_after
returns-clause-rects_after c = search tracing-ends
