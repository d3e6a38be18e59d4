-- `layout_listing::print::cell_lines` meets its contract. The invariant: the first i cells are written.
use Prim.Native.Nat.{◌*◌}
use Rattle.printing.specs.Printing.{Put}
use Rattle.layout_listing.specs.Printing.{cells_printed}
use Rattle.layout_listing.proofs.print.cell_lines.Given as goal

abbrev pub invariant-loop-i : goal.invariant-loop-i
invariant-loop-i l = Put (110 * l.i) l.initial.out l.out l.at l.end (cells_printed l.i l.rows l.cells)
