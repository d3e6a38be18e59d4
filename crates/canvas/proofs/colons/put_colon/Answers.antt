-- `canvas::colons::put_colon` meets its contract: one write, or none.
use Rattle.canvas.proofs.colons.ColonLaws.{colon-put, colon-none}
use borrow.Author.Rules.{rules}
use Rattle.canvas.proofs.colons.put_colon.Goals as goal

pub returns-then-on : goal.returns-then-on
returns-then-on c = search (rules, colon-put)

pub returns-else-on : goal.returns-else-on
returns-else-on c = search (rules, colon-none)
