-- `cm::draw::draw_frames` meets its contract: the canvas that is drawn of the cells' borders is the one sketched.
use Rattle.cm.proofs.draw.FrameLaws.{cells-placeable, row_low, rects-inside, frames-pictured}
use borrow.Author.Rules.{rules}
use Rattle.cm.proofs.draw.draw_frames.Goals as goal

pub place_cells-requires-clause-placeable : goal.place_cells-requires-clause-placeable
place_cells-requires-clause-placeable c = cells-placeable c.args.plan.now.planned c.requires.low.0 c.requires.low.1

pub draw_canvas-requires-clause-inside : goal.draw_canvas-requires-clause-inside
draw_canvas-requires-clause-inside c = rects-inside c.args.plan.now.planned c.requires.low.0 c.requires.low.1 _ c.place_cells.ensures

pub draw_canvas-requires-clause-row_bound : goal.draw_canvas-requires-clause-row_bound
draw_canvas-requires-clause-row_bound c = (row_low c.args.plan.now.planned c.requires.low.0 c.requires.low.1, search rules, search rules)

pub draw_canvas-requires-clause-rising : goal.draw_canvas-requires-clause-rising
draw_canvas-requires-clause-rising c = (c.args.plan.now.planned.across, c.requires.low.0)

pub returns : goal.returns
returns c =
    frames-pictured c.args.plan.now.planned c.requires.low.0 c.requires.low.1 _ c.place_cells.ensures _ _
    c.rules_of-rules.ensures c.draw_canvas.ensures
