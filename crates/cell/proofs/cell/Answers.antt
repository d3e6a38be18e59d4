-- `cell::cell` meets its contract: 13, a refusal of reading, or the cell finished.
use Rattle.std.proofs.lemmas.Result.{err_from_is_err_and}
use Rattle.representation.specs.Lent.{drawing_of}
use Rattle.cell.proofs.CallLaws.{cell-no-starts, cell-refused, cell-finished}
use Rattle.cell.proofs.cell.Goals as goal

pub returns-then-starts-lt-MAX_LINES : goal.returns-then-starts-lt-MAX_LINES
returns-then-starts-lt-MAX_LINES c =
    let told = cell-no-starts _ c.args.starts.now (drawing_of c.args.drawing) _ _ c.if-starts-lt-MAX_LINES.true in
    record { answer = told.0; afterwards = told.1 }

pub returns-in_err-reading : goal.returns-in_err-reading
returns-in_err-reading c =
    let p = err_from_is_err_and c.from_residual.result c.from_residual.ensures.1 in
    let told = cell-refused _ c.args.starts.now c.if-starts-lt-MAX_LINES.false (drawing_of c.args.drawing) _ _ c.in_err-reading.ensures.answer in
    record { answer = rw (p.1, p.2) told.0; afterwards = told.1 }

pub returns : goal.returns
returns c =
    let told =
    cell-finished _ c.args.starts.now c.if-starts-lt-MAX_LINES.false (drawing_of c.args.drawing) _ _ _ _ _ _ c.in_ok-reading.ensures.traced
    c.in_ok-reading.ensures.answer _ _ c.finish_cell.ensures.answer c.finish_cell.ensures.written in
    record { answer = told.0; afterwards = told.1 }
