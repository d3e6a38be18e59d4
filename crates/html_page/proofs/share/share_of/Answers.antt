-- `html_page::share::share_of` meets its contract.
use Rattle.html.specs.Shares.{share_of}
use Rattle.html_page.proofs.share.share_of.Goals as goal

pub returns : goal.returns
unfolding share_of
returns c = simp (c.percent.ensures, c.hundredths-hundredths.ensures)
