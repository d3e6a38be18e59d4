use Rattle.reading.proofs.checks.CheckLaws.{rest-room, rest-after, outside-here, inside-here, none-outside}
use borrow.Author.Rules.{rules}
use Rattle.reading.proofs.checks.first_outside.Goals as goal

pub split_at-requires : goal.split_at-requires
split_at-requires c = search rest-room

pub returns-then-not-well_formed : goal.returns-then-not-well_formed
returns-then-not-well_formed c = search (rules, outside-here)

pub loop-y-preserved : goal.loop-y-preserved
loop-y-preserved c = search (rules, rest-after, inside-here)

pub returns : goal.returns
returns c = search none-outside
