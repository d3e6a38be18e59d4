use Rattle.slots.proofs.reach.ReachLaws.{rows_next, rows_end}
use Rattle.slots.proofs.reach.reach_right.Goals as goal

pub loop-y-preserved : goal.loop-y-preserved
loop-y-preserved c = search rows_next

pub returns-clause-reach_right : goal.returns-clause-reach_right
returns-clause-reach_right c = search rows_end
