-- `page_listing::lines::page_table` meets its contract: each return by what the page call tells of the inner bytes.
use native.Mathlib.Omega.{arith}
use Rattle.page_listing.proofs.lines.PagedLaws.{cells-asked, large-paged, refused-paged, accepted-paged}
use Rattle.page_listing.proofs.lines.page_table.Goals as goal

pub escape_cells-size-requires-clause-cells : goal.escape_cells-size-requires-clause-cells
escape_cells-size-requires-clause-cells c =
    let asked = cells-asked _ _ c.requires.agrees in
    (c.requires.room.0, asked.0, asked.1)

pub escape_cells-size-requires-clause-lines : goal.escape_cells-size-requires-clause-lines
escape_cells-size-requires-clause-lines c =
    let asked = cells-asked _ _ c.requires.agrees in
    (omega (arith, asked, c.requires.room), omega (arith, asked, c.requires.room), asked.2)

pub returns-then-size-gt32768 : goal.returns-then-size-gt32768
returns-then-size-gt32768 c = large-paged _ _ c.requires.agrees _ c.requires.some _ _ _ c.escape_cells-size.ensures c.if-size-gt32768.true c.refused.ensures

pub returns-in-Err : goal.returns-in-Err
returns-in-Err c =
    refused-paged _ _ c.requires.agrees _ _ _ (c.escape_cells-size.ensures.1 c.if-size-gt32768.false) _ _ c.requires.room.3 _ c.page.ensures.answer c.page.ensures.after
    _ c.in-Err.is (rw (c.number.ensures, c.place.ensures) at c.refused-in-Err.ensures)

pub returns-in-Ok : goal.returns-in-Ok
returns-in-Ok c =
    accepted-paged _ _ c.requires.agrees _ _ _ (c.escape_cells-size.ensures.1 c.if-size-gt32768.false) _ _ c.requires.room.3 _ c.page.ensures.answer c.page.ensures.after
    _ c.in-Ok.is
