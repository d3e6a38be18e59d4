use Rattle.table_checks.proofs.rules.OrderLaws.{none_yet, not-broad, not-tall, too-wide, too-low, one_inside, none-outside}
use borrow.Author.Rules.{rules}
use Rattle.table_checks.proofs.rules.all_inside.Goals as goal
use Rattle.table_checks.proofs.rules.all_inside.Goals.{then-cell-eq0-via-then-cell-eq0, then-cell-eq0-via-else-cell-eq0+then-cell-eq0-2}
use Rattle.table_checks.proofs.rules.all_inside.Goals.{then-cell-eq0-via-else-cell-eq0+else-cell-eq0-2+then-shape-right, then-cell-eq0-via-else-cell-eq0+else-cell-eq0-2+else-shape-right+then-shape-bottom}

pub loop-k-init : goal.loop-k-init
loop-k-init c = search (rules, none_yet)

pub returns-then-cell-eq0 : goal.returns-then-cell-eq0
returns-then-cell-eq0 c =
    elim c.then-cell-eq0.branch [
      | then-cell-eq0-via-then-cell-eq0 w ↦ not-broad _ _ _ _ _ c.loop-k.invariant c.loop-k-test.true (rw c.at-cell.ensures at w.if-cell-eq0.true)
      | then-cell-eq0-via-else-cell-eq0+then-cell-eq0-2 w ↦
          not-tall _ _ _ _ _ c.loop-k.invariant c.loop-k-test.true (rw c.at-cell.ensures at w.if-cell-eq0-2.true)
      | then-cell-eq0-via-else-cell-eq0+else-cell-eq0-2+then-shape-right w ↦
          too-wide _ _ _ _ _ c.loop-k.invariant c.loop-k-test.true (rw (w.right.ensures, c.at-cell.ensures) at w.if-shape-right.true)
      | then-cell-eq0-via-else-cell-eq0+else-cell-eq0-2+else-shape-right+then-shape-bottom w ↦
          too-low _ _ _ _ _ c.loop-k.invariant c.loop-k-test.true (rw (w.bottom.ensures, c.at-cell.ensures) at w.if-shape-bottom.true)
    ]

pub loop-k-preserved : goal.loop-k-preserved
loop-k-preserved c =
    one_inside _ _ _ _ _ c.loop-k.invariant c.loop-k-test.true (rw c.at-cell.ensures at c.if-cell-eq0.false) (rw c.at-cell.ensures at c.if-cell-eq0-2.false)
    (rw (c.right.ensures, c.at-cell.ensures) at c.if-shape-right.false) (rw (c.bottom.ensures, c.at-cell.ensures) at c.if-shape-bottom.false)

pub returns : goal.returns
returns c = search none-outside
