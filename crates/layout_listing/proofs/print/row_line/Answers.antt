-- `layout_listing::print::row_line` meets its contract.
use Rattle.layout_listing.proofs.print.LineLaws.{row_put}
use Rattle.layout_listing.proofs.print.row_line.Goals as goal

pub returns : goal.returns
returns c = search row_put
