-- `html_page::share::hundredths` meets its contract.
use borrow.Author.Rules.{rules}
use Rattle.html_page.proofs.share.ShareLaws.{none_of, half_up, hundredths-fit}
use Rattle.html_page.proofs.share.hundredths.Goals as goal

pub returns-then-total-eq0 : goal.returns-then-total-eq0
returns-then-total-eq0 c = search none_of

pub overflow_cast-result : goal.overflow_cast-result
overflow_cast-result c = search (rules, hundredths-fit)

pub returns : goal.returns
returns c = search half_up
