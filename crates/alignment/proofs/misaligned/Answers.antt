use Rattle.alignment.proofs.LackLaws.{lack-found, lack-nowhere}
use Rattle.alignment.proofs.misaligned.Goals as goal

pub returns-then-cols-k : goal.returns-then-cols-k
returns-then-cols-k c = search lack-found

pub returns : goal.returns
returns c = search lack-nowhere
