-- `table_checks::rules::keeps_rules` meets its contract: each return by its law.
use Rattle.table_checks.proofs.rules.RuleLaws.{grid_in-laid, not-ordered, not-inside, not_covered, not-started, not-run, keeps_rules-crossing}
use Rattle.table_checks.proofs.rules.keeps_rules.Goals as goal

pub returns-then-not-in_order : goal.returns-then-not-in_order
returns-then-not-in_order c = not-ordered _ _ _ _ c.requires c.if-not-in_order.ensures

pub returns-then-not-all_inside : goal.returns-then-not-all_inside
returns-then-not-all_inside c = not-inside _ _ _ _ c.requires c.if-not-in_order.ensures c.if-not-all_inside.ensures

pub covers_once-requires-clause-laid : goal.covers_once-requires-clause-laid
covers_once-requires-clause-laid c = grid_in-laid _ _ _ _ c.requires c.if-not-all_inside.ensures

pub returns-then-not-covers_once : goal.returns-then-not-covers_once
returns-then-not-covers_once c = not_covered _ _ _ _ c.requires c.if-not-in_order.ensures c.if-not-all_inside.ensures c.if-not-covers_once.ensures

pub all_start-requires : goal.all_start-requires
all_start-requires c = grid_in-laid _ _ _ _ c.requires c.if-not-all_inside.ensures

pub returns-then-not-all_start : goal.returns-then-not-all_start
returns-then-not-all_start c =
    not-started _ _ _ _ c.requires c.if-not-in_order.ensures c.if-not-all_inside.ensures c.if-not-covers_once.ensures c.if-not-all_start.ensures

pub returns-then-not-sections_run : goal.returns-then-not-sections_run
returns-then-not-sections_run c =
    not-run _ _ _ _ c.requires c.if-not-in_order.ensures c.if-not-all_inside.ensures c.if-not-covers_once.ensures c.if-not-all_start.ensures
    c.if-not-sections_run.ensures

pub none_crosses-requires-clause-laid : goal.none_crosses-requires-clause-laid
none_crosses-requires-clause-laid c = grid_in-laid _ _ _ _ c.requires c.if-not-all_inside.ensures

pub returns : goal.returns
returns c =
    keeps_rules-crossing _ _ _ _ c.requires c.if-not-in_order.ensures c.if-not-all_inside.ensures c.if-not-covers_once.ensures c.if-not-all_start.ensures
    c.if-not-sections_run.ensures c.none_crosses.ensures
