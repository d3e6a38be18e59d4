use Rattle.reading.proofs.checks.CheckLaws.{too_long, counts-down, counted-down}
use borrow.Author.Rules.{rules}
use Rattle.reading.proofs.checks.adds_up.Goals as goal

pub returns-then-left-length : goal.returns-then-left-length
returns-then-left-length c = search too_long

pub loop-length-preserved : goal.loop-length-preserved
loop-length-preserved c = search (rules, counts-down)

pub returns : goal.returns
returns c = search counted-down
