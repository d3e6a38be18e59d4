-- `table_checks::limits::shape_too_large` meets its contract: from its call.
use Rattle.table_checks.proofs.limits.LimitLaws.{shape-apart}
use Rattle.table_checks.proofs.limits.shape_too_large.Goals as goal

pub returns : goal.returns
returns c = search shape-apart
