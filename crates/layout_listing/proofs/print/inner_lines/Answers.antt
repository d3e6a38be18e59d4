-- `layout_listing::print::inner_lines` meets its contract.
use Rattle.layout_listing.proofs.print.LineLaws.{inner-told}
use Rattle.layout_listing.proofs.print.inner_lines.Goals as goal

pub returns : goal.returns
returns c = search inner-told
