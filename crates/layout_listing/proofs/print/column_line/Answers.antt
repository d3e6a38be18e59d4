-- `layout_listing::print::column_line` meets its contract.
use Rattle.layout_listing.proofs.print.LineLaws.{column-put}
use Rattle.layout_listing.proofs.print.column_line.Goals as goal

pub returns : goal.returns
returns c = search column-put
