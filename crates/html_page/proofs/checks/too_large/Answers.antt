-- `html_page::checks::too_large` meets its contract.
use Rattle.html_page.proofs.checks.PageCheckLaws.{large-told}
use Rattle.html_page.proofs.checks.too_large.Goals as goal

pub returns : goal.returns
returns c = large-told _ _ c.shape_too_large.ensures
