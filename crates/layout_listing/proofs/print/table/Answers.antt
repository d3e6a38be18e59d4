-- `layout_listing::print::table` meets its contract.
use Rattle.layout_listing.proofs.print.LineLaws.{table-put}
use Rattle.layout_listing.proofs.print.table.Goals as goal

pub returns : goal.returns
returns c = search table-put
