-- `html_page::cells::render_span` meets its contract.
use borrow.Author.Rules.{rules}
use Rattle.seq.specs.Ascii.{ascii}
use Rattle.html_page.proofs.cells.CellLaws.{span_none, span-written}
use Rattle.html_page.proofs.cells.render_span.Goals as goal

pub returns-then-span-le1 : goal.returns-then-span-le1
returns-then-span-le1 c = (search span_none, search rules)

pub returns : goal.returns
unfolding ascii
returns c = (search span-written, search rules)
