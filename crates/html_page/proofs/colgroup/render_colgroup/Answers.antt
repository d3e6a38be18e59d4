-- `html_page::colgroup::render_colgroup` meets its contract.
use borrow.Author.Rules.{rules}
use Rattle.seq.specs.Ascii.{ascii}
use Rattle.html_page.proofs.colgroup.ColgroupLaws.{group-none, group-written}
use Rattle.html_page.proofs.colgroup.render_colgroup.Goals as goal

pub returns-then-not-widths : goal.returns-then-not-widths
returns-then-not-widths c = (search group-none, search rules)

pub returns : goal.returns
unfolding ascii
returns c = (search group-written, search rules)
