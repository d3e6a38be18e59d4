-- `html_page::rows::render_grid_table_row` meets its contract: the row is its three parts.
use native.Mathlib.Omega.{arith}
use Rattle.html_page.proofs.rows.RowLaws.{row_written}
use Rattle.html_page.proofs.rows.render_grid_table_row.Goals as goal

pub returns : goal.returns
returns c = (
  row_written _ _ _ _ _ c.args.row c.requires.sections.0
      c.open_row.ensures.0 c.render_cells-held.ensures.0 c.close_row.ensures.0,
  c.render_cells-held.ensures.1,
  omega (arith, c.render_cells-held.ensures.2, c.close_row.ensures.1),
)
