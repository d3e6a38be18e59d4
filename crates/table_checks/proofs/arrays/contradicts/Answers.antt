-- `table_checks::arrays::contradicts` meets its contract: from its calls.
use Rattle.table_checks.proofs.arrays.ArrayLaws.{unshaped, lines-wrong, bytes-wrong, uncounted, unfilled, codes-left}
use mathlib.Core.Path.{sym}
use Rattle.table_checks.proofs.arrays.contradicts.Goals as goal
use Rattle.table_checks.proofs.arrays.contradicts.Goals.{then-not-sized-via-then-not-sized, then-not-sized-via-else-not-sized+then-table, then-not-sized-via-else-not-sized+else-table+then-table-2}
use Rattle.table_checks.proofs.arrays.contradicts.Goals.{then-not-adds_up-via-then-not-adds_up, then-not-adds_up-via-else-not-adds_up+then-not-adds_up-2}

pub returns-then-not-sized : goal.returns-then-not-sized
returns-then-not-sized c =
    elim c.then-not-sized.branch [
      | then-not-sized-via-then-not-sized w ↦ unshaped _ _ (sym (rw c.of-shape.ensures at w.if-not-sized.ensures))
      | then-not-sized-via-else-not-sized+then-table w ↦ lines-wrong _ _ w.if-table.true
      | then-not-sized-via-else-not-sized+else-table+then-table-2 w ↦ bytes-wrong _ _ w.if-table-2.true
    ]

pub returns-then-not-adds_up : goal.returns-then-not-adds_up
returns-then-not-adds_up c =
    let sized = sym (rw c.of-shape.ensures at c.if-not-sized.ensures) in
    elim c.then-not-adds_up.branch [
      | then-not-adds_up-via-then-not-adds_up w ↦ uncounted _ _ sized c.if-table.false c.if-table-2.false w.if-not-adds_up.ensures
      | then-not-adds_up-via-else-not-adds_up+then-not-adds_up-2 w ↦ unfilled _ _ sized c.if-table.false c.if-table-2.false w.if-not-adds_up-2.ensures
    ]

pub returns : goal.returns
returns c =
    codes-left _ _ (sym (rw c.of-shape.ensures at c.if-not-sized.ensures)) c.if-table.false c.if-table-2.false
    c.if-not-adds_up.ensures c.if-not-adds_up-2.ensures (rw c.of-shape.ensures at c.known_codes.ensures)
