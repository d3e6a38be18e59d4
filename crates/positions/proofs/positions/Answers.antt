-- `positions::positions` meets its contract: a refusal of the checks, or the positions finished.
use Rattle.std.proofs.lemmas.Result.{err_from_is_err_and}
use Rattle.representation.specs.Lent.{drawing_of}
use Rattle.sourcepos.specs.PositionsCall.{placed, positions_lent}
use Rattle.positions.proofs.PartsLaws.{positions-stopped}
use Rattle.positions.proofs.CallLaws.{positions-finished}
use Rattle.positions.proofs.positions.Goals as goal

pub returns-in_err-reading : goal.returns-in_err-reading
returns-in_err-reading c =
    let p = err_from_is_err_and c.from_residual.result c.from_residual.ensures.1 in
    rw (p.1, p.2)
    (positions-stopped _ _ (placed (drawing_of c.args.drawing) c.args.numbers.now c.args.table_bytes.now) c.in_err-reading.ensures.answer
    (positions_lent c.args.row_positions.now c.args.cell_positions.now))

pub returns : goal.returns
returns c =
    positions-finished _ _ (drawing_of c.args.drawing) c.args.numbers.now c.args.table_bytes.now _ _ _ _ c.in_ok-reading.ensures.traced c.in_ok-reading.ensures.answer
    (positions_lent c.args.row_positions.now c.args.cell_positions.now) _ _ c.finish.ensures.answer c.finish.ensures.written
