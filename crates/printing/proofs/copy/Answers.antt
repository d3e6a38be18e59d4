-- `printing::copy` meets its contract: all that the writer puts down fits.
use borrow.Author.Rules.{rules}
use Rattle.printing.proofs.PutLaws.{put-wrote}
use Rattle.printing.proofs.copy.Goals as goal

pub returns : goal.returns
returns c = search (rules, put-wrote)
