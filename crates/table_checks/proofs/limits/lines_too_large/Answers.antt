-- `table_checks::limits::lines_too_large` meets its contract: from its calls.
use Rattle.table_checks.proofs.limits.LimitLaws.{lines-apart}
use Rattle.table_checks.proofs.limits.lines_too_large.Goals as goal

pub returns : goal.returns
returns c = search lines-apart
