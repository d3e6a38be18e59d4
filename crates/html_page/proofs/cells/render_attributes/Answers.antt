-- `html_page::cells::render_attributes` meets its contract.
use borrow.Author.Rules.{rules}
use Rattle.seq.specs.Ascii.{ascii}
use Rattle.html_page.proofs.cells.CellLaws.{attributes-written}
use Rattle.html_page.proofs.cells.render_attributes.Goals as goal

pub returns : goal.returns
unfolding ascii
returns c = (search attributes-written, search rules)
