-- `redraw_listing::lines::redraw_lines` meets its contract: each return by what the table call tells.
use Rattle.representation.specs.Lent.{sizes_of, arrays_of}
use Rattle.redraw_listing.proofs.lines.ToldLaws.{table-printed, unread-printed}
use Rattle.redraw_listing.proofs.lines.redraw_lines.Goals as goal

pub redraw_table-requires-clause-agreeing : goal.redraw_table-requires-clause-agreeing
redraw_table-requires-clause-agreeing c = c.in-Ok.ensures.agree

pub returns-in-Ok : goal.returns-in-Ok
returns-in-Ok c = table-printed _ _ (sizes_of c.in-Ok.table) (arrays_of c.in-Ok.table) c.in-Ok.ensures c.redraw_table.ensures

pub returns-in-Err : goal.returns-in-Err
returns-in-Err c = unread-printed _ _ c.in-Err.ensures (rw (c.number.ensures, c.place.ensures) at c.refused.ensures)
