-- `cm::split::is_vertical` meets its contract.
use Rattle.cm.proofs.split.HitLaws.{vertical-is}
use Rattle.cm.proofs.split.is_vertical.Goals as goal

-- src/split.rt:37:1
pub returns : goal.returns
returns c = search vertical-is
