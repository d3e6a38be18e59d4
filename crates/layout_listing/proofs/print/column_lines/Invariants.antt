-- `layout_listing::print::column_lines` meets its contract. The invariant: the first i columns are written.
use Prim.Native.Nat.{◌*◌}
use Rattle.grid.specs.Flat.{columns_of_array}
use Rattle.grid.specs.Listing.{numbered, column_line}
use Rattle.printing.specs.Printing.{Put}
use Rattle.layout_listing.proofs.print.column_lines.Given as goal

abbrev pub invariant-loop-i : goal.invariant-loop-i
invariant-loop-i l = Put (48 * l.i) l.initial.out l.out l.at l.end (numbered column_line 0 (columns_of_array l.i l.cols))
