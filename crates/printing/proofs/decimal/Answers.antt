-- `printing::decimal` meets its contract.
use Rattle.printing.proofs.PutLaws.{decimal-put}
use Rattle.printing.proofs.decimal.Goals as goal

pub returns : goal.returns
returns c = search decimal-put
