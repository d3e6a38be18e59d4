-- `characters::within` meets its contract: the test of the definition, made the other way round.
use Rattle.seq.proofs.ListsLaws.{within-tests}
use Rattle.characters.proofs.within.Goals as goal

pub returns : goal.returns
returns c = search within-tests
