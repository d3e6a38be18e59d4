-- `printing::words` meets its contract.
use Rattle.printing.proofs.PutLaws.{put_then}
use Rattle.printing.proofs.words.Goals as goal

pub returns : goal.returns
returns c = search put_then
