-- `cm::redraw` meets its contract: 13 of the working space, the checks up to 8, and the rest.
use Rattle.std.proofs.lemmas.Result.{err_from_is_err_and}
use Rattle.cm.proofs.CallLaws.{space-refused, space-room, check-refused, table-drawn}
use Rattle.cm.proofs.redraw.Goals as goal

pub returns-then-space_short : goal.returns-then-space_short
returns-then-space_short c = space-refused _ c.space_short.ensures _ _ _ _ c.if-space_short.true

pub draw_table-requires-clause-tabled : goal.draw_table-requires-clause-tabled
draw_table-requires-clause-tabled c = c.in_ok-check_table.ensures.tabled

pub draw_table-requires-clause-text_room : goal.draw_table-requires-clause-text_room
draw_table-requires-clause-text_room c = (space-room _ c.space_short.ensures c.if-space_short.false).0

pub draw_table-requires-clause-canvas_room : goal.draw_table-requires-clause-canvas_room
draw_table-requires-clause-canvas_room c = (space-room _ c.space_short.ensures c.if-space_short.false).1

pub returns-in_err-check_table : goal.returns-in_err-check_table
returns-in_err-check_table c =
    let p = err_from_is_err_and c.from_residual.result c.from_residual.ensures.1 in
    rw (p.1, p.2)
    (check-refused _ c.space_short.ensures c.if-space_short.false _ _ _ _ _ c.check_table.ensures.answer c.in_err-check_table.was)

pub returns : goal.returns
returns c =
    table-drawn _ c.space_short.ensures c.if-space_short.false _ _ _ _ _ c.check_table.ensures.answer
    c.in_ok-check_table.was c.draw_table.ensures
