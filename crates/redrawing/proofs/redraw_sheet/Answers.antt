-- `redrawing::redraw_sheet` meets its contract: 13, then the table call, then the redraw call on what it wrote.
use mathlib.Core.Path.{sym, ap, ap₂, ◌∙◌}
use mathlib.Core.Bool.{◌||◌}
use Rattle.seq.proofs.Tests.{or_left, or_right}
use Rattle.drawing.specs.SheetCall.{redraw_step}
use Rattle.drawing.proofs.SheetCallLaws.{sheet-short}
use Rattle.redrawing.proofs.SheetLaws.{unread-answers, redrawn-answers, table_filled}
use Rattle.redrawing.proofs.redraw_sheet.Goals.{then-space_short-via-then-space_short, then-space_short-via-else-space_short+then-space_short-2}
use Rattle.redrawing.proofs.redraw_sheet.Goals as goal

pub returns-then-space_short : goal.returns-then-space_short
returns-then-space_short c =
    sheet-short _ _ _ _ _ _ _
    (elim c.then-space_short.branch [
      | then-space_short-via-then-space_short w ↦ or_left _ (sym c.space_short.ensures ∙ w.if-space_short.true)
      | then-space_short-via-else-space_short+then-space_short-2 w ↦ or_right _ (sym w.space_short-else-space_short.ensures ∙ w.if-space_short-2.true)
    ])

pub returns-in-Err : goal.returns-in-Err
returns-in-Err c =
    unread-answers _ _ _ _ _ _ _
    (ap₂ ◌||◌ (sym c.space_short.ensures ∙ c.if-space_short.false) (sym c.space_short-else-space_short.ensures ∙ c.if-space_short-2.false))
    (sym c.in-Err.ensures.0)

pub table_held-held-requires : goal.table_held-held-requires
table_held-held-requires c = table_filled _ _ _ _ (sym c.in-Ok.ensures.0) c.in-Ok.ensures.1

pub returns : goal.returns
returns c =
    let enough = ap₂ ◌||◌ (sym c.space_short.ensures ∙ c.if-space_short.false) (sym c.space_short-else-space_short.ensures ∙ c.if-space_short-2.false) in
    let (sizes, arrays) = c.table_held-held.ensures in
    let (answer, after) = rw (sizes, arrays) at c.redraw.ensures in
    redrawn-answers _ _ _ _ _ _ _ enough (sym c.in-Ok.ensures.0) c.in-Ok.ensures.1 (c.redraw_step.ensures ∙ ap redraw_step answer, after)
