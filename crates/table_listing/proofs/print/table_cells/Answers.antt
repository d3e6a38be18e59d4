-- `table_listing::print::table_cells` meets its contract.
use Rattle.table_listing.proofs.print.CellLaws.{table-put}
use Rattle.table_listing.proofs.print.table_cells.Goals as goal

pub returns : goal.returns
returns c = search table-put
