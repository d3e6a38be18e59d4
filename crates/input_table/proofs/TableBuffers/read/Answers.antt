-- `input_table::TableBuffers::read` meets its contract: the table of the sizes told.
use Rattle.std.proofs.lemmas.Result.{err_from_is_err_and}
use Rattle.input_table.proofs.TableBuffers.read.Goals as goal

pub returns-in_err-sizes : goal.returns-in_err-sizes
returns-in_err-sizes c =
    let p = err_from_is_err_and c.from_residual.result c.from_residual.ensures.1 in
    rw (p.1, p.2) c.in_err-sizes.ensures

pub held-requires : goal.held-requires
held-requires c = let h = c.in_ok-sizes.ensures in (h.columns, h.rows, h.cells, h.lines, h.bytes)

pub returns : goal.returns
returns c = rw (c.held.ensures.sizes, c.held.ensures.parts) c.in_ok-sizes.ensures
