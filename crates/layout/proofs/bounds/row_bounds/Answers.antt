-- `layout::bounds::row_bounds` meets its contract: the lines collected from the marked edges.
use Rattle.layout.proofs.bounds.EdgeLaws.{collected-rows}
use Rattle.layout.proofs.bounds.row_bounds.Goals as goal

pub returns : goal.returns
returns c = search collected-rows
