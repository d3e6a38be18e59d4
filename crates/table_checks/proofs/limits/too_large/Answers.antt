-- `table_checks::limits::too_large` meets its contract: from its calls.
use Rattle.table_checks.proofs.limits.LimitLaws.{limits-apart}
use Rattle.table_checks.proofs.limits.too_large.Goals as goal

pub returns : goal.returns
returns c = limits-apart _ _ _ _ _ _ _ _ _ _ (rw c.of.ensures at c.shape_too_large.ensures) c.lines_too_large.ensures
