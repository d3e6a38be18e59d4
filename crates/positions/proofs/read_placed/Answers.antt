-- `positions::read_placed` meets its contract: each return by its law.
use Rattle.std.proofs.Common.{◌∙◌}
use Rattle.std.proofs.lemmas.Result.{err_from_is_err_and, IfOk-weaker}
use Rattle.grid.specs.LayoutCall.{spaces}
use Rattle.representation.specs.Lent.{drawing_of}
use Rattle.positions.proofs.PlacedLaws.{placed-refused, same-rects, placed-sheet}
use Rattle.positions.proofs.read_placed.Goals as goal

pub returns-in_err-check_placed-clause-answer : goal.returns-in_err-check_placed-clause-answer
returns-in_err-check_placed-clause-answer c =
    let p = err_from_is_err_and c.from_residual.result c.from_residual.ensures.1 in
    let w = spaces c.args.glyphs.now c.args.offsets.now c.args.down.now c.args.right.now c.args.rects.now in
    rw (p.1, p.2) (placed-refused w c.args.starts (drawing_of c.args.drawing) c.args.numbers.now c.args.table_bytes.now c.in_err-check_placed.ensures)

pub returns-clause-answer : goal.returns-clause-answer
returns-clause-answer c =
    let w = spaces c.args.glyphs.now c.args.offsets.now c.args.down.now c.args.right.now c.args.rects.now in
    c.read.ensures.answer ∙ same-rects w c.args.starts (drawing_of c.args.drawing) c.args.numbers.now c.args.table_bytes.now c.in_ok-check_placed.ensures

pub returns-clause-numbered : goal.returns-clause-numbered
returns-clause-numbered c =
    let w = spaces c.args.glyphs.now c.args.offsets.now c.args.down.now c.args.right.now c.args.rects.now in
    IfOk-weaker c.read.result _ _
    (λ s t. placed-sheet w c.args.starts (drawing_of c.args.drawing) c.args.numbers.now c.args.table_bytes.now c.in_ok-check_placed.ensures t.sheet.few_lines) c.read.ensures.traced
