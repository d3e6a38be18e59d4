-- `layout::alignments::segment_alignment` meets its contract: by the first and the last byte.
use Rattle.layout.proofs.alignments.AlignmentLaws.{segment_alignment-empty, segment_alignment-both, segment_alignment-left, segment_alignment-right, segment_alignment-none}
use borrow.Author.Rules.{rules}
use Rattle.layout.proofs.alignments.segment_alignment.Goals as goal

pub returns-then-is_empty : goal.returns-then-is_empty
returns-then-is_empty c = search (rules, segment_alignment-empty)

pub returns-in-true-true : goal.returns-in-true-true
returns-in-true-true c = search (rules, segment_alignment-both)

pub returns-in-true-false : goal.returns-in-true-false
returns-in-true-false c = search (rules, segment_alignment-left)

pub returns-in-false-true : goal.returns-in-false-true
returns-in-false-true c = search (rules, segment_alignment-right)

pub returns-in-false-false : goal.returns-in-false-false
returns-in-false-false c = search (rules, segment_alignment-none)
