-- `page_listing::escape::escape_byte` meets its contract.
use native.Mathlib.Omega.{arith}
use Rattle.page_listing.proofs.escape.ByteLaws.{amp-escaped, lt-escaped, gt-escaped, byte-kept}
use Rattle.seq.specs.Ascii.{ascii}
use borrow.Author.Rules.{rules}
use Rattle.page_listing.proofs.escape.escape_byte.Goals as goal

pub returns-in-38 : goal.returns-in-38
unfolding ascii
returns-in-38 c = (search amp-escaped, search rules)

pub returns-in-60 : goal.returns-in-60
unfolding ascii
returns-in-60 c = (lt-escaped _ (λ e. omega arith) c.in-60.is c.copy-in-60.ensures, search rules)

pub returns-in-62 : goal.returns-in-62
unfolding ascii
returns-in-62 c = (gt-escaped _ (λ e. omega arith) (λ e. omega arith) c.in-62.is c.copy-in-62.ensures, search rules)

pub returns-in_default : goal.returns-in_default
returns-in_default c = (search byte-kept, search rules)
