-- `reading::read` meets its contract: each return by its law.
use Rattle.std.proofs.lemmas.Result.{err_from_is_err_and}
use Rattle.representation.specs.Lent.{drawing_of}
use Rattle.reading.proofs.ReadingLaws.{without-space, without-width, checks-room, width-traceable, read-told}
use Rattle.reading.proofs.read.Goals as goal

pub returns-then-space_short-clause-answer : goal.returns-then-space_short-clause-answer
returns-then-space_short-clause-answer c = without-space (drawing_of c.args.drawing) _ _ _ _ _ _ c.space_short.ensures c.if-space_short.true

pub checked-requires : goal.checked-requires
checked-requires c = checks-room (drawing_of c.args.drawing) c.args.glyphs.now c.args.offsets.now c.args.down.now c.args.right.now c.args.rects.now _ c.space_short.ensures c.if-space_short.false

pub returns-in_err-width-clause-answer : goal.returns-in_err-width-clause-answer
returns-in_err-width-clause-answer c =
    let p = err_from_is_err_and c.from_residual.result c.from_residual.ensures.1 in
    rw (p.1, p.2) (without-width (drawing_of c.args.drawing) _ _ _ _ _ _ c.space_short.ensures c.if-space_short.false c.in_err-width.ensures.answer)

pub trace_lines-requires : goal.trace_lines-requires
trace_lines-requires c =
    let (fillable, room) =
    width-traceable (drawing_of c.args.drawing) c.args.glyphs.now c.args.offsets.now c.args.down.now c.args.right.now c.args.rects.now _ c.space_short.ensures c.if-space_short.false _ _ _
    (c.checked.auto.glyphs, c.checked.auto.offsets, c.checked.auto.counts) _ c.in_ok-width.ensures.answer c.in_ok-width.ensures.scanned c.in_ok-width.ensures.plain_top in
    record { fillable = fillable; room = room }

pub returns : goal.returns
returns c =
    let (answer, traced) =
    read-told (drawing_of c.args.drawing) c.args.glyphs.now c.args.offsets.now c.args.down.now c.args.right.now c.args.rects.now _ c.space_short.ensures c.if-space_short.false _ _ _
    (c.checked.auto.glyphs, c.checked.auto.offsets, c.checked.auto.counts) _ c.in_ok-width.ensures.answer _ _ _ (c.trace_lines.auto.glyphs, c.trace_lines.auto.offsets, c.trace_lines.auto.rects) _
    c.trace_lines.ensures.answer c.trace_lines.ensures.through in
    record { answer = answer; traced = traced }
