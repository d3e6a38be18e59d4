-- `utf8::several::is_three` meets its contract: by the first byte, or by what is decoded.
use Rattle.utf8.proofs.SeveralLaws.{three-none, three-han, three-decoded}
use borrow.Author.Rules.{rules}
use Rattle.utf8.proofs.several.is_three.Goals as goal

pub returns-then-a-ge240 : goal.returns-then-a-ge240
returns-then-a-ge240 c = search (rules, three-none)

pub returns-then-is_continuation : goal.returns-then-is_continuation
returns-then-is_continuation c = search (rules, three-han)

pub returns : goal.returns
returns c = search (rules, three-decoded)
