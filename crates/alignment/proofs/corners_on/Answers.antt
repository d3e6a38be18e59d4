use Rattle.alignment.proofs.CornerLaws.{none-marked, both-marked, none_more}
use borrow.Author.Rules.{rules}
use Rattle.alignment.proofs.corners_on.Goals as goal
use Rattle.alignment.proofs.corners_on.Goals.{else-line-cell, then-line-cell}

pub loop-k-init : goal.loop-k-init
loop-k-init c = search (rules, none-marked)

pub loop-k-preserved : goal.loop-k-preserved
loop-k-preserved c =
    elim c.if-line-cell.branch [
      | then-line-cell w ↦
          both-marked _ _ _ c.loop-k.invariant c.loop-k-test.true (rw (c.bottom.ensures, c.at-cell.ensures) at w.if-line-cell.true)
          (rw (w.right.ensures, c.at-cell.ensures) at w.marks-is)
      | else-line-cell w ↦ none_more _ _ _ c.loop-k.invariant c.loop-k-test.true (rw (c.bottom.ensures, c.at-cell.ensures) at w.if-line-cell.false) w.marks-is
    ]
