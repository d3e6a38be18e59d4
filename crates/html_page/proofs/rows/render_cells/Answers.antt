use mathlib.Core.Path.{◌≡◌}
use native.Mathlib.Omega.{arith}
use Rattle.html_page.proofs.rows.RowLaws.{standing-in, standing-next, cell-given, bytes_fit, place-low, standing-past, cells-none, cells-next, cells-all}
use borrow.Author.Rules.{rules}
use Rattle.html_page.proofs.rows.render_cells.Goals as goal

pub loop-k-init : goal.loop-k-init
loop-k-init c =
    (standing-in c.requires.celled.1, c.requires.low.1, search rules, cells-none _ _ _ _ _ c.requires.celled.1)

pub returns-then-cells-k : goal.returns-then-cells-k
returns-then-cells-k c =
    let past = standing-past c.requires.celled.0 c.loop-k.invariant.0 (λ h. c.if-cells-k.true) in
    (cells-all _ _ _ c.loop-k.invariant.3 past, past, c.loop-k.invariant.1)

pub render_grid_table_cell-at-requires : goal.render_grid_table_cell-at-requires
render_grid_table_cell-at-requires c =
    (cell-given c.requires.celled.0 c.loop-k.invariant.0 c.loop-k-test.true, place-low c.requires.celled.0 c.loop-k.invariant.0 c.requires.low.0 c.loop-k.invariant.1)

pub overflow_add-from-in-loop-k : goal.overflow_add-from-in-loop-k
overflow_add-from-in-loop-k c = bytes_fit c.requires.celled.0 c.loop-k.invariant.0 c.loop-k-test.true

pub loop-k-preserved : goal.loop-k-preserved
loop-k-preserved c = (
  standing-next c.loop-k.invariant.0 c.loop-k-test.true c.if-cells-k.false,
  omega (arith, c.render_grid_table_cell-at.ensures.1, c.loop-k.invariant.1),
  search rules,
  cells-next _ _ _ c.loop-k.invariant.3 c.loop-k.invariant.0 c.loop-k-test.true c.if-cells-k.false c.render_grid_table_cell-at.ensures.0,
)

pub returns : goal.returns
returns c =
    let past = standing-past c.requires.celled.0 c.loop-k.invariant.0 (λ h. absurd (omega arith)) in
    let all : c.loop-k.k ≡ c.args.table.shape.cells = omega (arith, c.loop-k.invariant.0.few) in
    (cells-all _ _ _ c.loop-k.invariant.3 past, rw all at past, omega (arith, c.loop-k.invariant.1))
