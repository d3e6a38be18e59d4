-- `html_page::colgroup::render_fraction` meets its contract.
use borrow.Author.Rules.{rules}
use Rattle.html_page.proofs.colgroup.ColgroupLaws.{fraction-none, fraction-short, fraction-long}
use Rattle.html_page.proofs.colgroup.render_fraction.Goals as goal

pub returns-then-hundredths-eq0 : goal.returns-then-hundredths-eq0
returns-then-hundredths-eq0 c = (search fraction-none, search rules)

pub returns-then-hundredths-eq0-2 : goal.returns-then-hundredths-eq0-2
returns-then-hundredths-eq0-2 c = (search fraction-short, search rules)

pub returns : goal.returns
returns c = (search fraction-long, search rules)
