use Rattle.canvas.proofs.frames.FrameLaws.{frames-start, frames-next, frames-end, frame-room}
use borrow.Author.Rules.{rules}
use Rattle.canvas.proofs.frames.place_cells.Goals as goal

pub loop-k-init : goal.loop-k-init
loop-k-init c = search (rules, frames-start)

pub put_rect-requires-clause-n_bound : goal.put_rect-requires-clause-n_bound
put_rect-requires-clause-n_bound c =
    let (few, _, room) = c.requires.n_bound in
    (frame-room _ _ _ _ _ _ _ c.loop-k.invariant c.loop-k-test.true few room).0

pub put_rect-requires-clause-top_bound : goal.put_rect-requires-clause-top_bound
put_rect-requires-clause-top_bound c =
    let (few, _, room) = c.requires.n_bound in
    (frame-room _ _ _ _ _ _ _ c.loop-k.invariant c.loop-k-test.true few room).1

pub loop-k-preserved : goal.loop-k-preserved
loop-k-preserved c = search (rules, frames-next)

pub returns : goal.returns
returns c = frames-end _ _ _ _ _ _ _ c.loop-k.invariant c.loop-k-test.false
