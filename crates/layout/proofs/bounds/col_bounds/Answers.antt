-- `layout::bounds::col_bounds` meets its contract: the lines collected from the marked edges.
use Rattle.layout.proofs.bounds.EdgeLaws.{collected-columns}
use Rattle.layout.proofs.bounds.col_bounds.Goals as goal

pub returns : goal.returns
returns c = search collected-columns
