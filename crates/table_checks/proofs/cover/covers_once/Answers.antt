use Rattle.table_checks.proofs.cover.CoverLaws.{none-heaped, cell-placed, not-level, cover-told}
use borrow.Author.Rules.{rules}
use mathlib.Core.Path.{ap}
use mathlib.Core.Bool.{not}
use Rattle.table_checks.proofs.cover.covers_once.Goals as goal

pub loop-k-init : goal.loop-k-init
loop-k-init c = search (rules, none-heaped)

pub returns-then-not-all_at : goal.returns-then-not-all_at
returns-then-not-all_at c =
    not-level _ _ _ _ c.requires.laid _ c.loop-k-test.true _ c.loop-k.invariant c.requires.ordered _
    (rw (c.right.ensures, c.at-cell.ensures) at c.all_at.ensures) (ap not c.if-not-all_at.true)

pub loop-k-preserved : goal.loop-k-preserved
loop-k-preserved c =
    cell-placed _ _ _ _ c.requires.laid _ c.loop-k-test.true _ c.loop-k.invariant _ (rw (c.right.ensures, c.at-cell.ensures) at c.all_at.ensures)
    (ap not c.if-not-all_at.false) _ (rw (c.right-in-loop-k.ensures, c.bottom.ensures, c.at-cell.ensures) at c.raise.ensures)

pub returns : goal.returns
returns c = search cover-told
