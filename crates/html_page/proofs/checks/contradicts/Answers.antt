-- `html_page::checks::contradicts` meets its contract: from its calls.
use mathlib.Core.Path.{sym}
use Rattle.html_page.proofs.checks.PageCheckLaws.{unshaped, bytes-wrong, unfilled, codes-left}
use Rattle.html_page.proofs.checks.contradicts.Goals as goal
use Rattle.html_page.proofs.checks.contradicts.Goals.{then-not-sized-via-then-not-sized, then-not-sized-via-else-not-sized+then-table}

pub returns-then-not-sized : goal.returns-then-not-sized
returns-then-not-sized c =
    elim c.then-not-sized.branch [
      | then-not-sized-via-then-not-sized w ↦ unshaped _ _ (sym w.if-not-sized.ensures)
      | then-not-sized-via-else-not-sized+then-table w ↦ bytes-wrong _ _ w.if-table.true
    ]

pub returns-then-not-adds_up : goal.returns-then-not-adds_up
returns-then-not-adds_up c = unfilled _ _ (sym c.if-not-sized.ensures) c.if-table.false c.if-not-adds_up.ensures

pub returns : goal.returns
returns c = codes-left _ _ (sym c.if-not-sized.ensures) c.if-table.false c.if-not-adds_up.ensures c.known_codes.ensures
