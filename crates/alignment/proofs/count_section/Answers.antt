use Rattle.alignment.proofs.SectionLaws.{none-counted, one-counted, other-passed, all-counted}
use borrow.Author.Rules.{rules}
use Rattle.alignment.proofs.count_section.Goals as goal
use Rattle.alignment.proofs.count_section.Goals.{else-code-row, then-code-row}

pub loop-row-init : goal.loop-row-init
loop-row-init c = search none-counted

pub loop-row-preserved : goal.loop-row-preserved
loop-row-preserved c = elim c.if-code-row.branch [ then-code-row w ↦ search (rules, one-counted) | else-code-row w ↦ search (rules, other-passed) ]

pub returns : goal.returns
returns c = rw c.from-code.ensures at (all-counted c.loop-row.invariant c.loop-row-test.false)
