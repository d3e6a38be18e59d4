-- `utf8::several::is_two` meets its contract: by the first byte, or by what is decoded.
use Rattle.utf8.proofs.SeveralLaws.{two_none, two-narrow, two-mark, two-decoded}
use borrow.Author.Rules.{rules}
use Rattle.utf8.proofs.several.is_two.Goals as goal

pub returns-then-within : goal.returns-then-within
returns-then-within c = search (rules, two-narrow)

pub returns-then-a-eq204 : goal.returns-then-a-eq204
returns-then-a-eq204 c = search (rules, two-mark)

pub returns-then-a-lt192 : goal.returns-then-a-lt192
returns-then-a-lt192 c = search (rules, two_none)

pub returns : goal.returns
returns c = search (rules, two-decoded)
