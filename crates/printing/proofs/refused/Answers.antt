-- `printing::refused` meets its contract.
use Rattle.printing.proofs.WordLaws.{refused-put}
use Rattle.printing.proofs.refused.Goals as goal

pub returns : goal.returns
returns c = search refused-put
