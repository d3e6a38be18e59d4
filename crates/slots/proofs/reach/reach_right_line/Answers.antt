-- `slots::reach::reach_right_line` meets its contract: by whether the line has a run.
use borrow.Author.Rules.{rules}
use Rattle.slots.proofs.reach.ReachLaws.{right-self}
use Rattle.slots.proofs.reach.reach_right_line.Goals as goal

pub returns-else-has_run : goal.returns-else-has_run
returns-else-has_run c = search (rules, right-self)
