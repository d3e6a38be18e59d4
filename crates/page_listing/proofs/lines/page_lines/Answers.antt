-- `page_listing::lines::page_lines` meets its contract: each return by what the table call tells.
use Rattle.printing.proofs.PutLaws.{prints-as}
use Rattle.page_listing.proofs.lines.PagedLaws.{read_some, read-paged, unread-paged}
use Rattle.page_listing.proofs.lines.page_lines.Goals as goal

pub page_table-requires : goal.page_table-requires
page_table-requires c =
    let h = c.in-Ok.ensures in
    record { agrees = h.agree; some = read_some h; room = (h.cells, h.lines, h.bytes, c.requires.2) }

pub returns-in-Err : goal.returns-in-Err
returns-in-Err c =
    prints-as c.refused.ensures (rw (c.number.ensures, c.place.ensures) (unread-paged c.args.widths c.args.lengths.now c.args.text.now c.in-Err.ensures))

pub returns-in-Ok : goal.returns-in-Ok
returns-in-Ok c = prints-as c.page_table.ensures (read-paged c.args.widths c.args.lengths.now c.args.text.now c.in-Ok.ensures)
