-- `gridtable::lines::grid_trim_end` meets its contract: the length of the part that is left.
use mathlib.Core.Path.{ap}
use lib.ListN.{length}
use Rattle.gridtable.proofs.lines.grid_trim_end.Goals as goal

pub returns : goal.returns
returns c = ap length c.trim_end-rest.ensures.1
