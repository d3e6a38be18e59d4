-- `layout_listing::print::letter` meets its contract.
use Rattle.layout_listing.proofs.print.LineLaws.{letter-put}
use Rattle.layout_listing.proofs.print.letter.Goals as goal

pub returns : goal.returns
returns c = search letter-put
