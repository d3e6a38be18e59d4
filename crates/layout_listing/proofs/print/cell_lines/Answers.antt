use borrow.Author.Rules.{rules}
use Rattle.layout_listing.proofs.print.LineLaws.{cells-none, cells-put}
use Rattle.layout_listing.proofs.print.cell_lines.Goals as goal

pub loop-i-init : goal.loop-i-init
loop-i-init c = search (rules, cells-none)

pub loop-i-preserved : goal.loop-i-preserved
loop-i-preserved c = search (rules, cells-put)
