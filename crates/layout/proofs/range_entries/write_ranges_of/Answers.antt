use Rattle.layout.proofs.range_entries.RangeLaws.{ranges_written-none, ranges_written-next, ranges_written-all}
use borrow.Author.Rules.{rules}
use Rattle.layout.proofs.range_entries.write_ranges_of.Goals as goal

pub loop-y-init : goal.loop-y-init
loop-y-init c = search (rules, ranges_written-none)

pub loop-y-preserved : goal.loop-y-preserved
loop-y-preserved c = search (rules, ranges_written-next)

pub returns-clause-written : goal.returns-clause-written
returns-clause-written c = ranges_written-all _ _ _ _ _ _ _ c.loop-y.invariant c.requires.down.0 (search rules) (search rules)
