-- `html_page::render_grid_table` meets its contract: the page is its four parts.
use Rattle.html_page.proofs.PageLaws.{page-written}
use Rattle.seq.specs.Ascii.{ascii}
use Rattle.html_page.proofs.render_grid_table.Goals as goal

pub returns : goal.returns
unfolding ascii
returns c = page-written c.requires _ c.copy-opened.ensures c.render_colgroup-grouped.ensures.0 c.render_rows-end.ensures.0 c.copy.ensures
