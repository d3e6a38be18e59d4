use Rattle.table_checks.proofs.cover.LevelLaws.{not_at, at_level, all-at}
use borrow.Author.Rules.{rules}
use Rattle.table_checks.proofs.cover.Levels.all_at.Goals as goal

pub returns-then-self-x : goal.returns-then-self-x
returns-then-self-x c = search not_at

pub loop-x-preserved : goal.loop-x-preserved
loop-x-preserved c = search (rules, at_level)

pub returns : goal.returns
returns c = search all-at
