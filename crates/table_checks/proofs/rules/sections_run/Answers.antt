-- `table_checks::rules::sections_run` meets its contract.
use Rattle.table_checks.proofs.rules.SectionLaws.{sorted-runs}
use Rattle.table_checks.proofs.rules.sections_run.Goals as goal

pub returns : goal.returns
returns c = sorted-runs _ _ c.is_sorted.ensures.cases
