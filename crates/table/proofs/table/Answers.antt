-- `table::table` meets its contract: 13, a refusal of reading, or the table finished.
use Rattle.std.proofs.lemmas.Result.{err_from_is_err_and}
use Rattle.grid.specs.Flat.{lines_of}
use Rattle.representation.specs.Lent.{drawing_of}
use Rattle.table.specs.Call.{arrays}
use Rattle.table.proofs.CallLaws.{table-no-space, table-refused, table-finished}
use Rattle.table.proofs.table.Goals as goal

pub returns-then-starts-lt-MAX_LINES : goal.returns-then-starts-lt-MAX_LINES
returns-then-starts-lt-MAX_LINES c = table-no-space _ c.args.starts.now c.args.counts.now (drawing_of c.args.drawing) _ c.then-starts-lt-MAX_LINES.either

pub returns-in_err-reading : goal.returns-in_err-reading
returns-in_err-reading c =
    let p = err_from_is_err_and c.from_residual.result c.from_residual.ensures.1 in
    let told =
    table-refused _ c.args.starts.now c.args.counts.now (drawing_of c.args.drawing)
    (arrays c.args.cols.now c.args.sections.now c.args.cells.now c.args.out_lengths.now c.args.out_text.now)
    c.if-starts-lt-MAX_LINES.false c.if-counts-lt-MAX_CELLS.false c.in_err-reading.ensures.answer in
    (rw (p.1, p.2) told.0, told.1)

pub returns : goal.returns
unfolding lines_of
returns c =
    table-finished _ c.args.starts.now c.args.counts.now (drawing_of c.args.drawing)
    (arrays c.args.cols.now c.args.sections.now c.args.cells.now c.args.out_lengths.now c.args.out_text.now)
    c.if-starts-lt-MAX_LINES.false c.if-counts-lt-MAX_CELLS.false _ c.in_ok-reading.ensures.answer _ _ c.finish.ensures.answer c.finish.ensures.written
