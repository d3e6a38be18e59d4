-- `fragments::part::cut_part` meets its contract: from its calls.
use Rattle.fragments.proofs.part.PartLaws.{cut-pieced}
use Rattle.fragments.proofs.part.cut_part.Goals as goal

pub returns : goal.returns
returns c = search cut-pieced
