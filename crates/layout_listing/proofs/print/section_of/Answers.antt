-- `layout_listing::print::section_of` meets its contract.
use Rattle.layout_listing.proofs.print.LineLaws.{section-head, section-foot, section-body}
use Rattle.layout_listing.proofs.print.section_of.Goals as goal

pub returns-in-0 : goal.returns-in-0
returns-in-0 c = search section-head

pub returns-in-2 : goal.returns-in-2
returns-in-2 c = search section-foot

pub returns-in_default : goal.returns-in_default
returns-in_default c = search section-body
