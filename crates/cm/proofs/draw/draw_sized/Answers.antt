-- `cm::draw::draw_sized` meets its contract: too large a canvas is a 2, any other is drawn and finished.
use mathlib.Core.Path.{sym}
use borrow.Author.Rules.{rules}
use Rattle.cm.proofs.draw.SizedLaws.{frames-asked, width_fits, height-fits, sized-large, sized-ready}
use Rattle.cm.proofs.draw.draw_sized.Goals as goal

pub returns-then-right-bottom : goal.returns-then-right-bottom
returns-then-right-bottom c = λ v S T. sized-large S _ _ c.if-right-bottom.true

pub draw_frames-requires-clause-low : goal.draw_frames-requires-clause-low
draw_frames-requires-clause-low c =
    let asked = frames-asked c.args.plan.now.planned c.if-right-bottom.false c.requires.room in (asked.0, asked.1)

pub overflow_add-board : goal.overflow_add-board
overflow_add-board c = search (rules, width_fits c.args.plan.now.planned c.if-right-bottom.false)

pub overflow_add-board-2 : goal.overflow_add-board-2
overflow_add-board-2 c = search (rules, height-fits c.args.plan.now.planned c.if-right-bottom.false)

pub invariant_of-board : goal.invariant_of-board
invariant_of-board c = record { near = c.requires.room.0 }

pub finish-requires : goal.finish-requires
finish-requires c =
    let (v, S, T) = c.requires.sketched in
    (v, sized-ready c.args.plan.now.planned c.if-right-bottom.false c.requires.room S T (search rules) (search rules) (c.draw_frames.ensures v S), sym S.tall)

pub returns : goal.returns
returns c =
    λ v S T.
    c.finish.ensures v
    (sized-ready c.args.plan.now.planned c.if-right-bottom.false c.requires.room S T (search rules) (search rules) (c.draw_frames.ensures v S)) (sym S.tall)
