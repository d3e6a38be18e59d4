use native.Mathlib.Omega.{arith}
use Rattle.sizes.proofs.borders.StartLaws.{none-started, one-started, all-started}
use borrow.Author.Rules.{rules}
use Rattle.sizes.proofs.borders.start_widths.Goals as goal

pub loop-k-init : goal.loop-k-init
loop-k-init c = search (rules, none-started)

pub loop-k-preserved : goal.loop-k-preserved
loop-k-preserved c =
    one-started _ _ c.loop-k.invariant c.loop-k-test.true (c.type_inv.cols _) (rw c.at-column.ensures at c.least_width.ensures) (rw c.at-column.ensures at c.max.ensures)

pub returns-clause-result_value : goal.returns-clause-result_value
returns-clause-result_value c = search (rules, all-started)
