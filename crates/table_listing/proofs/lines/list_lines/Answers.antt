-- `table_listing::lines::list_lines` meets its contract: each return by what the table call tells.
use native.Mathlib.Omega.{arith}
use Rattle.printing.proofs.PutLaws.{prints-as}
use Rattle.table_listing.proofs.lines.ListedLaws.{held-listed, refused-listed}
use Rattle.table_listing.proofs.lines.list_lines.Goals as goal

pub table_cells-requires : goal.table_cells-requires
table_cells-requires c =
    let h = c.in-Ok.ensures in
    record { few = h.cells; short = (omega (arith, h.line_count, h.lines), omega (arith, h.byte_count, h.bytes)); room = c.requires.2 }

pub returns-in-Err : goal.returns-in-Err
returns-in-Err c = prints-as c.refused.ensures (rw (c.number.ensures, c.place.ensures) (refused-listed c.args.lengths.now c.args.text.now c.in-Err.ensures))

pub returns-in-Ok : goal.returns-in-Ok
returns-in-Ok c = prints-as c.table_cells.ensures (held-listed c.in-Ok.ensures)
