use Rattle.canvas.proofs.colons.ColonLaws.{colons-start, colons-room, colons-drawn, colons-kept, colons-end}
use borrow.Author.Rules.{rules}
use Rattle.canvas.proofs.colons.draw_colons.Goals as goal

pub loop-k-init : goal.loop-k-init
loop-k-init c = search (rules, colons-start)

pub put_colons-requires : goal.put_colons-requires
put_colons-requires c =
    let (low, _, _, room) = c.requires.row_bound in
    let (up, near) = c.requires.rising in
    colons-room _ _ _ _ _ _ _ _ _ c.loop-k.invariant c.loop-k-test.true up near low room

pub loop-k-preserved-then-marks-k-eq1 : goal.loop-k-preserved-then-marks-k-eq1
loop-k-preserved-then-marks-k-eq1 c = search (rules, colons-drawn)

pub loop-k-preserved : goal.loop-k-preserved
loop-k-preserved c = search (rules, colons-kept)

pub returns : goal.returns
returns c = search (rules, colons-end)
