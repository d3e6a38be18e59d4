-- `table_checks::limits::table_empty` meets its contract: by its law.
use Rattle.table_checks.proofs.limits.LimitLaws.{empty-sizes}
use Rattle.table_checks.proofs.limits.table_empty.Goals as goal

pub returns : goal.returns
returns c = search empty-sizes
