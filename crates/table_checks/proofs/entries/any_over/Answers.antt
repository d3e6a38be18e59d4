use Rattle.table_checks.proofs.entries.EntryLaws.{over-here, not-over-here, none_over}
use Rattle.table_checks.proofs.entries.any_over.Goals as goal

pub returns-then-limit-numbers : goal.returns-then-limit-numbers
returns-then-limit-numbers c = search over-here

pub loop-k-preserved : goal.loop-k-preserved
loop-k-preserved c = search not-over-here

pub returns : goal.returns
returns c = search none_over
