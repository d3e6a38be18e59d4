-- `html_page::cells::render_grid_table_cell` meets its contract: the cell is its four parts.
use Rattle.html_page.proofs.cells.CellLaws.{cell-written, cell-near}
use Rattle.grid.specs.Flat.{code_section}
use Rattle.html_page.proofs.cells.render_grid_table_cell.Goals as goal

pub returns : goal.returns
returns c = (
  cell-written c.requires.0 (code_section c.args.section) (rw c.section_of-section.ensures at c.open_cell-opened.ensures.0)
      (rw (c.at-column.ensures, c.at-cell.ensures) at c.render_attributes-tagged.ensures.0) (rw c.at-cell.ensures at c.copy-end.ensures) (rw c.section_of-section.ensures at c.close_cell.ensures.0),
  cell-near c.requires.0 _ c.open_cell-opened.ensures.1 c.render_attributes-tagged.ensures.1 (rw c.at-cell.ensures at c.copy-end.ensures) c.close_cell.ensures.1,
)
