use Rattle.input_lines.proofs.SplitLaws.{lines_none, lines_next, lines-held, lines-many, lines_long}
use Rattle.input_lines.proofs.split_lines.Goals as goal

pub loop-at-init : goal.loop-at-init
loop-at-init c = search lines_none

pub returns-then-lengths-lines-clause-splits : goal.returns-then-lengths-lines-clause-splits
returns-then-lengths-lines-clause-splits c = search lines-many

pub returns-then-text-bytes-clause-splits : goal.returns-then-text-bytes-clause-splits
returns-then-text-bytes-clause-splits c = search lines_long

pub loop-at-preserved : goal.loop-at-preserved
loop-at-preserved c = search lines_next

pub returns-clause-splits : goal.returns-clause-splits
returns-clause-splits c = search lines-held
