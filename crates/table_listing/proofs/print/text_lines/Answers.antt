use Rattle.table_listing.proofs.print.TextLaws.{texts-none, texts-next, texts-all}
use Rattle.table_listing.proofs.print.text_lines.Goals as goal

pub loop-length-init : goal.loop-length-init
loop-length-init c = search texts-none

pub loop-length-preserved : goal.loop-length-preserved
loop-length-preserved c = search texts-next

pub returns : goal.returns
returns c = search texts-all
