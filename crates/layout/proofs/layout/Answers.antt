-- `layout::layout` meets its contract: a refusal of reading, or the layout finished.
use Rattle.std.proofs.lemmas.Result.{err_from_is_err_and}
use Rattle.grid.specs.Flat.{lines_of}
use Rattle.representation.specs.Lent.{drawing_of}
use Rattle.layout.proofs.CallLaws.{layout-refused, layout-finished}
use Rattle.layout.proofs.layout.Goals as goal

pub returns-in_err-reading : goal.returns-in_err-reading
returns-in_err-reading c =
    let p = err_from_is_err_and c.from_residual.result c.from_residual.ensures.1 in
    rw (p.1, p.2) (layout-refused _ (drawing_of c.args.drawing) _ c.in_err-reading.ensures.answer)

pub returns : goal.returns
unfolding lines_of
returns c = layout-finished _ (drawing_of c.args.drawing) _ _ c.in_ok-reading.ensures.answer _ _ c.finish.ensures
