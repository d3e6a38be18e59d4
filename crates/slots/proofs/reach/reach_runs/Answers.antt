use Rattle.slots.proofs.reach.ReachLaws.{right-starts, right-next}
use Rattle.slots.proofs.reach.reach_runs.Goals as goal

pub loop-x-init : goal.loop-x-init
loop-x-init c = search right-starts

pub loop-x-preserved : goal.loop-x-preserved
loop-x-preserved c = search right-next
