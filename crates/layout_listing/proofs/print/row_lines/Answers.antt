use borrow.Author.Rules.{rules}
use Rattle.layout_listing.proofs.print.LineLaws.{rows_none, rows-put}
use Rattle.layout_listing.proofs.print.row_lines.Goals as goal

pub loop-i-init : goal.loop-i-init
loop-i-init c = search (rules, rows_none)

pub loop-i-preserved : goal.loop-i-preserved
loop-i-preserved c = search (rules, rows-put)
