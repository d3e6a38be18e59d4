-- `page_listing::escape::break_before` meets its contract.
use Rattle.page_listing.proofs.escape.LineLaws.{no-break, break-written}
use Rattle.seq.specs.Ascii.{ascii}
use borrow.Author.Rules.{rules}
use Rattle.page_listing.proofs.escape.break_before.Goals as goal

pub returns-then-i-eq0 : goal.returns-then-i-eq0
returns-then-i-eq0 c = (search no-break, search rules)

pub returns : goal.returns
unfolding ascii
returns c = (search break-written, search rules)
