use Rattle.cm.proofs.split.FirstLaws.{unsplit-none, unsplit-next, split-here, split-nowhere}
use Rattle.cm.proofs.split.first_split.Goals as goal

pub loop-k-init : goal.loop-k-init
loop-k-init c = unsplit-none _ _ _ _ _

pub returns-then-splits : goal.returns-then-splits
returns-then-splits c = split-here _ _ c.loop-k.invariant _ c.splits.ensures c.if-splits.true c.loop-k-test.true

pub loop-k-preserved : goal.loop-k-preserved
loop-k-preserved c = unsplit-next _ _ c.loop-k.invariant _ c.splits.ensures c.if-splits.false

pub returns : goal.returns
returns c = split-nowhere _ _ c.loop-k.invariant c.loop-k-test.false
