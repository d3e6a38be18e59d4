-- `layout_listing::lines::list_lines` meets its contract: each return by what the answer tells.
use Rattle.printing.proofs.PutLaws.{prints-as}
use Rattle.layout_listing.proofs.lines.list_lines.Goals as goal

pub table-requires : goal.table-requires
table-requires c = (c.in-Ok.ensures.0, c.in-Ok.ensures.1, c.in-Ok.ensures.2, c.requires.2)

pub returns-in-Err : goal.returns-in-Err
returns-in-Err c = prints-as c.refused.ensures (rw (c.number.ensures, c.place.ensures) c.in-Err.ensures)

pub returns-in-Ok : goal.returns-in-Ok
returns-in-Ok c = prints-as c.table.ensures c.in-Ok.ensures.3
