use Rattle.table_checks.proofs.entries.EntryLaws.{too_much, counts-down, counted-down}
use Rattle.table_checks.proofs.entries.adds_up.Goals as goal

pub returns-then-missing-number : goal.returns-then-missing-number
returns-then-missing-number c = search too_much

pub loop-k-preserved : goal.loop-k-preserved
loop-k-preserved c = search counts-down

pub returns : goal.returns
returns c = search counted-down
