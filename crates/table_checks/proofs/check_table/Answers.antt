-- `table_checks::check_table` meets its contract: each return by its law, from the checks before it.
use Rattle.table_checks.proofs.CheckLaws.{lines-add-up, columns-sized, lines-agree, check_table-placed}
use Rattle.table_checks.proofs.CheckLaws.{check_table-empty, check_table-large, check_table-outside, check_table-broken}
use Rattle.table_checks.proofs.CheckLaws.{check_table-kept, check_table-tabled, check_table-sized}
use mathlib.Core.Path.{ap}
use mathlib.Core.Bool.{not}
use Rattle.table_checks.proofs.check_table.Goals as goal

pub returns-then-table_empty-clause-answer : goal.returns-then-table_empty-clause-answer
returns-then-table_empty-clause-answer c =
    check_table-empty _ _ _ c.contradicts.ensures c.if-contradicts.false (rw c.of-shape.ensures at c.table_empty.ensures) c.if-table_empty.true

pub too_large-requires-clause-sized : goal.too_large-requires-clause-sized
too_large-requires-clause-sized c = columns-sized _ _ c.contradicts.ensures c.if-contradicts.false

pub too_large-requires-clause-agree : goal.too_large-requires-clause-agree
too_large-requires-clause-agree c = lines-agree _ _ c.contradicts.ensures c.if-contradicts.false

pub returns-then-too_large-clause-answer : goal.returns-then-too_large-clause-answer
returns-then-too_large-clause-answer c =
    check_table-large _ _ _ c.contradicts.ensures c.if-contradicts.false (rw c.of-shape.ensures at c.table_empty.ensures) c.if-table_empty.false
    c.too_large.ensures c.if-too_large.true

pub first_outside-requires : goal.first_outside-requires
first_outside-requires c = lines-add-up _ _ c.contradicts.ensures c.if-contradicts.false

pub returns-in-Some-clause-answer : goal.returns-in-Some-clause-answer
returns-in-Some-clause-answer c =
    check_table-outside _ _ _ c.contradicts.ensures c.if-contradicts.false (rw c.of-shape.ensures at c.table_empty.ensures) c.if-table_empty.false
    c.too_large.ensures c.if-too_large.false _ c.first_outside.ensures c.in-Some.is

pub keeps_rules-requires : goal.keeps_rules-requires
keeps_rules-requires c =
    rw c.of-shape.ensures (check_table-placed _ _ c.contradicts.ensures c.if-contradicts.false _ c.too_large.ensures c.if-too_large.false)

pub returns-then-not-keeps_rules-clause-answer : goal.returns-then-not-keeps_rules-clause-answer
returns-then-not-keeps_rules-clause-answer c =
    check_table-broken _ _ _ c.contradicts.ensures c.if-contradicts.false (rw c.of-shape.ensures at c.table_empty.ensures) c.if-table_empty.false
    c.too_large.ensures c.if-too_large.false _ c.first_outside.ensures c.in_default.is (rw c.of-shape.ensures at c.keeps_rules.ensures)
    (ap not c.if-not-keeps_rules.true)

pub returns-clause-answer : goal.returns-clause-answer
returns-clause-answer c =
    check_table-kept _ _ _ c.contradicts.ensures c.if-contradicts.false (rw c.of-shape.ensures at c.table_empty.ensures) c.if-table_empty.false
    c.too_large.ensures c.if-too_large.false _ c.first_outside.ensures c.in_default.is (rw c.of-shape.ensures at c.keeps_rules.ensures)
    (ap not c.if-not-keeps_rules.false)

pub returns-clause-tabled : goal.returns-clause-tabled
returns-clause-tabled c =
    check_table-tabled _ _ _ c.contradicts.ensures c.if-contradicts.false (rw c.of-shape.ensures at c.table_empty.ensures) c.if-table_empty.false
    c.too_large.ensures c.if-too_large.false _ c.first_outside.ensures c.in_default.is (rw c.of-shape.ensures at c.keeps_rules.ensures)
    (ap not c.if-not-keeps_rules.false)

pub returns-clause-sized : goal.returns-clause-sized
returns-clause-sized c =
    check_table-sized _ _ _ c.contradicts.ensures c.if-contradicts.false (rw c.of-shape.ensures at c.table_empty.ensures) c.if-table_empty.false
    c.too_large.ensures c.if-too_large.false _ c.first_outside.ensures c.in_default.is (rw c.of-shape.ensures at c.keeps_rules.ensures)
    (ap not c.if-not-keeps_rules.false)
