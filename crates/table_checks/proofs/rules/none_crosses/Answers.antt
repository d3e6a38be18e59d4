use Rattle.table_checks.proofs.rules.SectionLaws.{none_yet, one-crosses, one-whole, all_whole}
use borrow.Author.Rules.{rules}
use Rattle.table_checks.proofs.rules.none_crosses.Goals as goal

pub loop-k-init : goal.loop-k-init
loop-k-init c = search (rules, none_yet)

pub returns-then-shape-cell : goal.returns-then-shape-cell
returns-then-shape-cell c =
    one-crosses _ _ _ _ c.requires.laid c.requires.run _ c.loop-k.invariant c.loop-k-test.true (rw (c.bottom.ensures, c.at-cell.ensures) at c.if-shape-cell.true)

pub loop-k-preserved : goal.loop-k-preserved
loop-k-preserved c =
    one-whole _ _ _ _ c.requires.laid c.requires.run _ c.loop-k.invariant c.loop-k-test.true (rw (c.bottom.ensures, c.at-cell.ensures) at c.if-shape-cell.false)

pub returns : goal.returns
returns c = search all_whole
