-- `layout_listing::print::row_lines` meets its contract. The invariant: the first i rows are written.
use Prim.Native.Nat.{◌*◌}
use Rattle.grid.specs.Listing.{numbered, row_line}
use Rattle.printing.specs.Printing.{Put}
use Rattle.layout_listing.specs.Printing.{rows_of_array}
use Rattle.layout_listing.proofs.print.row_lines.Given as goal

abbrev pub invariant-loop-i : goal.invariant-loop-i
invariant-loop-i l = Put (69 * l.i) l.initial.out l.out l.at l.end (numbered row_line 0 (rows_of_array l.i l.rows))
