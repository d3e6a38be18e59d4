-- `reading::trace_lines` meets its contract: what the callees ensure, put together.
use Rattle.std.proofs.lemmas.Result.{err_from_is_err_and}
use Rattle.reading.proofs.ThroughLaws.{unfilled, untraced, traced}
use Rattle.reading.proofs.trace_lines.Goals as goal

pub returns-in_err-separators-clause-answer : goal.returns-in_err-separators-clause-answer
returns-in_err-separators-clause-answer c =
    let p = err_from_is_err_and c.from_residual.result c.from_residual.ensures.1 in
    rw (p.1, p.2) (unfilled _ c.args.drawing.columns.now _ _ (c.in_err-separators.ensures c.args.drawing.columns.now c.requires.fillable))

pub returns-in_err-cells-clause-answer : goal.returns-in_err-cells-clause-answer
returns-in_err-cells-clause-answer c =
    let p = err_from_is_err_and c.from_residual-in_err-cells.result c.from_residual-in_err-cells.ensures.1 in
    rw (p.1, p.2)
    (untraced c.args.drawing.lengths.now c.args.drawing.columns.now c.args.drawing.text.now _ (c.in_ok-separators.ensures c.args.drawing.columns.now c.requires.fillable) c.args.width c.requires.fillable.wide
    _ c.in_err-cells.ensures.rects_after c.in_err-cells.ensures.no_place)

pub returns : goal.returns
returns c =
    let (answer, through) =
    traced c.args.drawing.lengths.now c.args.drawing.columns.now c.args.drawing.text.now _ (c.in_ok-separators.ensures c.args.drawing.columns.now c.requires.fillable) c.args.width c.requires.fillable.wide
    _ _ c.in_ok-cells.ensures.rects_after c.in_ok-cells.ensures.result_bound in
    record { answer = answer; through = through }
