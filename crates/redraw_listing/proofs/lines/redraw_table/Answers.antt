-- `redraw_listing::lines::redraw_table` meets its contract: each return by what the redraw call tells.
use Rattle.redraw_listing.proofs.lines.ToldLaws.{drawing-printed, undrawn-printed}
use borrow.Author.Rules.{rules}
use Rattle.redraw_listing.proofs.lines.redraw_table.Goals as goal

pub print_lines-requires : goal.print_lines-requires
print_lines-requires c =
    let held = c.in-Ok.ensures.2 in
    (held.whole, search (rules, held.few_lines, held.few_bytes))

pub returns-in-Ok : goal.returns-in-Ok
returns-in-Ok c = drawing-printed _ c.in-Ok.ensures.2 c.print_lines.ensures

pub returns-in-Err : goal.returns-in-Err
returns-in-Err c = undrawn-printed _ c.in-Err.ensures (rw (c.number.ensures, c.place.ensures) at c.refused.ensures)
