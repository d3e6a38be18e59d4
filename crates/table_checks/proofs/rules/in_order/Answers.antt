use Rattle.table_checks.proofs.rules.OrderLaws.{order-broken, order-kept, all-ordered}
use Rattle.table_checks.proofs.rules.in_order.Goals as goal

pub returns-then-not-before-cell : goal.returns-then-not-before-cell
returns-then-not-before-cell c =
    order-broken _ _ _ c.loop-k.invariant c.loop-k.auto.k c.loop-k-test.true (rw (c.at-before.ensures, c.at-cell.ensures) at c.if-not-before-cell.true)

pub loop-k-preserved : goal.loop-k-preserved
loop-k-preserved c =
    order-kept _ _ _ c.loop-k.invariant c.loop-k.auto.k c.loop-k-test.true (rw (c.at-before.ensures, c.at-cell.ensures) at c.if-not-before-cell.false)

pub returns : goal.returns
returns c = search all-ordered
