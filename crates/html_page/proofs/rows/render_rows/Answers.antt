use native.Mathlib.Omega.{arith}
use Rattle.html_page.proofs.rows.RowLaws.{standing-first, rows_none, rows_next, rows_all}
use borrow.Author.Rules.{rules}
use Rattle.html_page.proofs.rows.render_rows.Goals as goal

pub loop-row-init : goal.loop-row-init
loop-row-init c = (standing-first _ _, search rules, search rules, rows_none _ _ _ _ _ _ _)

pub loop-row-preserved : goal.loop-row-preserved
loop-row-preserved c = (
  c.render_grid_table_row-reached.ensures.1,
  c.render_grid_table_row-reached.ensures.2,
  search rules,
  rows_next _ _ _ _ _ _ c.loop-row.invariant.3 c.render_grid_table_row-reached.ensures.0,
)

pub returns : goal.returns
returns c = (
  rows_all _ _ _ _ _ c.loop-row.row c.loop-row.auto.row-end c.loop-row-test.false c.loop-row.invariant.3,
  omega (arith, c.loop-row.invariant.0.few, c.requires.celled.0.few),
)
