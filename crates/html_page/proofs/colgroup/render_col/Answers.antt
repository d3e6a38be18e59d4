-- `html_page::colgroup::render_col` meets its contract.
use borrow.Author.Rules.{rules}
use Rattle.seq.specs.Ascii.{ascii}
use Rattle.html_page.proofs.colgroup.ColgroupLaws.{col-written}
use Rattle.html_page.proofs.colgroup.render_col.Goals as goal

pub returns : goal.returns
unfolding ascii
returns c = (search col-written, search rules)
