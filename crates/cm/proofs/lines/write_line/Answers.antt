use mathlib.Core.Path.{refl, ap}
use native.Mathlib.Omega.{arith}
use borrow.Author.Rules.{rules}
use Rattle.grid.specs.Values.{Rect}
use Rattle.cm.proofs.lines.TurnLaws.{asked, walk-starts, walk_ends, walk-total, walk-border, inner-asked, right-room, walk-less, walk-cell, walk-few}
use Rattle.cm.proofs.lines.write_line.Goals as goal

pub loop-x-init : goal.loop-x-init
loop-x-init c = record { short = omega arith; kept = refl; walked = walk-starts _ _ _ _ _ _ _ _ }

pub loop-x-preserved-then-code-lt256 : goal.loop-x-preserved-then-code-lt256
loop-x-preserved-then-code-lt256 c =
    record {
      short = search rules;
      kept = search rules;
      walked = walk-border (asked c.args.board.now _ _ c.requires.ready c.requires.early) c.loop-x.invariant.walked c.loop-x-test.true _ refl c.if-code-lt256.true _ _ c.put.ensures;
    }

pub write_cell-end-requires-clause-boxed : goal.write_cell-end-requires-clause-boxed
write_cell-end-requires-clause-boxed c = let (v, R, _) = c.requires.ready in (v, R.boxed)

pub write_cell-end-requires-clause-inner : goal.write_cell-end-requires-clause-inner
write_cell-end-requires-clause-inner c =
    (inner-asked (asked c.args.board.now _ _ c.requires.ready c.requires.early) c.loop-x.invariant.walked c.loop-x-test.true _ refl c.if-code-lt256.false c.loop-x.invariant.short).2

pub write_cell-end-requires-clause-early : goal.write_cell-end-requires-clause-early
write_cell-end-requires-clause-early c =
    (inner-asked (asked c.args.board.now _ _ c.requires.ready c.requires.early) c.loop-x.invariant.walked c.loop-x-test.true _ refl c.if-code-lt256.false c.loop-x.invariant.short).4

pub at-x-requires : goal.at-x-requires
at-x-requires c = let room = right-room (asked c.args.board.now _ _ c.requires.ready c.requires.early) c.loop-x.invariant.walked c.loop-x-test.true _ refl c.if-code-lt256.false in omega arith

pub loop-x-smaller : goal.loop-x-smaller
loop-x-smaller c =
    walk-less (asked c.args.board.now _ _ c.requires.ready c.requires.early) c.loop-x.invariant.walked c.loop-x-test.true _ refl c.if-code-lt256.false _ (ap (λ (r : Rect). r.right) c.at-x.ensures)

pub loop-x-preserved : goal.loop-x-preserved
loop-x-preserved c =
    let past = ap (λ (r : Rect). r.right) c.at-x.ensures in
    record {
      short = walk-few (asked c.args.board.now _ _ c.requires.ready c.requires.early) c.loop-x.invariant.walked c.loop-x-test.true _ refl c.if-code-lt256.false _ past c.write_cell-end.new.out _ c.write_cell-end.ensures.short c.loop-x.invariant.short;
      kept = search rules;
      walked = walk-cell (asked c.args.board.now _ _ c.requires.ready c.requires.early) c.loop-x.invariant.walked c.loop-x-test.true _ refl c.if-code-lt256.false _ past _ _ c.write_cell-end.ensures.short c.write_cell-end.ensures.wrote;
    }

pub returns-clause-wrote : goal.returns-clause-wrote
returns-clause-wrote c = walk_ends (asked c.args.board.now _ _ c.requires.ready c.requires.early) c.loop-x.invariant.walked c.loop-x-test.false

pub returns-clause-short : goal.returns-clause-short
returns-clause-short c = walk-total (asked c.args.board.now _ _ c.requires.ready c.requires.early) c.loop-x.invariant.walked c.loop-x.invariant.short
