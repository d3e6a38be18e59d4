-- `positions::cell_position` meets its contract: a refusal of the checks, or the position of the cell.
use Rattle.std.proofs.Common.{length, ap, ◌∙◌, arith}
use Rattle.std.proofs.lemmas.Result.{err_from_is_err_and}
use Rattle.representation.specs.Lent.{drawing_of}
use Rattle.sourcepos.specs.PositionsCall.{placed}
use Rattle.positions.proofs.PartsLaws.{cell-stopped}
use Rattle.reading.proofs.SheetLaws.{traced-room}
use Rattle.representation.specs.LayoutEntries.{Inside}
use Rattle.representation.proofs.HeldLaws.{rect-holds}
use Rattle.positions.specs.Spans.{rect_span}
use Rattle.positions.proofs.SpansLaws.{placed-inside}
use Rattle.positions.proofs.CallLaws.{cell-position-past, cell-position-found}
use Rattle.positions.proofs.cell_position.Goals as goal

pub returns-in_err-reading : goal.returns-in_err-reading
returns-in_err-reading c =
    let p = err_from_is_err_and c.from_residual.result c.from_residual.ensures.1 in
    rw (p.1, p.2) (cell-stopped _ _ (placed (drawing_of c.args.drawing) c.args.numbers.now c.args.table_bytes.now) c.in_err-reading.ensures.answer _)

pub returns-then-reading-k : goal.returns-then-reading-k
returns-then-reading-k c =
    cell-position-past _ _ (drawing_of c.args.drawing) c.args.numbers.now c.args.table_bytes.now _ _ _ _ c.in_ok-reading.ensures.traced c.in_ok-reading.ensures.answer _ c.if-reading-k.true

pub at-requires : goal.at-requires
at-requires c = omega (arith, traced-room _ _ c.in_ok-reading.ensures.traced, c.if-reading-k.false)

pub position-requires : goal.position-requires
position-requires c =
    rw c.at.ensures
    (rect-holds (Inside (length c.args.numbers.now) 128) c.read_placed.new.rects c.in_ok-reading.reading.cells c.args.k c.if-reading-k.false
    (placed-inside c.in_ok-reading.ensures.traced c.args.numbers.now c.in_ok-reading.ensures.numbered.agree))

pub returns : goal.returns
returns c =
    cell-position-found _ _ (drawing_of c.args.drawing) c.args.numbers.now c.args.table_bytes.now _ _ _ _ c.in_ok-reading.ensures.traced c.in_ok-reading.ensures.answer _ c.if-reading-k.false _
    (c.position.ensures _ ∙ ap (rect_span _ _) c.at.ensures)
