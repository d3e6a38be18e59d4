-- `table_listing::print::text_line` meets its contract.
use Rattle.table_listing.proofs.print.TextLaws.{line-put}
use Rattle.table_listing.proofs.print.text_line.Goals as goal

pub returns : goal.returns
returns c = search line-put
