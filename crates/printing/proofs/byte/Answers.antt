-- `printing::byte` meets its contract.
use Rattle.printing.proofs.PutLaws.{put_byte}
use Rattle.printing.proofs.byte.Goals as goal

pub returns : goal.returns
returns c = search put_byte
