use Rattle.table_checks.proofs.starts.StartLaws.{no-marks, start_small, mark-more}
use borrow.Author.Rules.{rules}
use Rattle.table_checks.proofs.starts.starts.Goals as goal

pub loop-k-init : goal.loop-k-init
loop-k-init c = search (rules, no-marks)

pub loop-k-preserved : goal.loop-k-preserved
loop-k-preserved c = search (rules, mark-more, start_small)
