-- `html_page::write_page` meets its contract: the page is counted, and written where it fits.
use Rattle.html_page.proofs.PageLaws.{page-short, page-room}
use Rattle.html_page.proofs.write_page.Goals as goal

pub returns-then-out-bytes : goal.returns-then-out-bytes
returns-then-out-bytes c =
    let (answer, after) = page-short _ _ c.render_grid_table-bytes.ensures _ c.if-out-bytes.true in
    record { answer = answer; after = after }

pub returns : goal.returns
returns c =
    let (answer, after) = page-room _ _ c.render_grid_table-bytes.ensures _ c.if-out-bytes.false c.render_grid_table.ensures in
    record { answer = answer; after = after }
