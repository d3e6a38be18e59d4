-- `table_listing::print::cell_lines` meets its contract. The invariant: the first i cells are written.
use Rattle.table_listing.proofs.print.CellLaws.{Cells}
use Rattle.table_listing.proofs.print.cell_lines.Given as goal

abbrev pub invariant-loop-i : goal.invariant-loop-i
invariant-loop-i l = Cells l.count l.cells l.lengths l.text l.initial.out l.at l.out l.i l.line l.used l.end
