use borrow.Author.Rules.{rules}
use Rattle.layout_listing.proofs.print.LineLaws.{columns-none, columns-put}
use Rattle.layout_listing.proofs.print.column_lines.Goals as goal

pub loop-i-init : goal.loop-i-init
loop-i-init c = search (rules, columns-none)

pub loop-i-preserved : goal.loop-i-preserved
loop-i-preserved c = search (rules, columns-put)
