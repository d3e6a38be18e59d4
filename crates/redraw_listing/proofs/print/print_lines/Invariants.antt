-- `redraw_listing::print::print_lines` meets its contract. The invariant: the first lines are printed.
use Rattle.redraw_listing.proofs.print.PrintLaws.{Printed}
use Rattle.redraw_listing.proofs.print.print_lines.Given as goal

abbrev pub invariant-loop-length : goal.invariant-loop-length
invariant-loop-length l = Printed l.lengths l.text l.initial.out l.out l.length-index l.rest l.end
