-- `table_listing::print::text_lines` meets its contract. The invariant: the first lines are written.
use Rattle.table_listing.proofs.print.TextLaws.{Texts}
use Rattle.table_listing.proofs.print.text_lines.Given as goal

abbrev pub invariant-loop-length : goal.invariant-loop-length
invariant-loop-length l = Texts l.lengths l.text l.initial.out l.at l.out l.length-index l.used l.end
