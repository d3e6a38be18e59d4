-- `canvas::colons::put_colons` meets its contract: two colons.
use Rattle.canvas.proofs.colons.ColonLaws.{colons-put}
use borrow.Author.Rules.{rules}
use Rattle.canvas.proofs.colons.put_colons.Goals as goal

pub returns : goal.returns
returns c = search (rules, colons-put)
