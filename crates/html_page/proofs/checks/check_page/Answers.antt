-- `html_page::checks::check_page` meets its contract: each return by its law, from the checks before it.
use Rattle.html_page.proofs.checks.PageCheckLaws.{room-for-columns, check_page-placed, check_page-contradicted, check_page-empty, check_page-large, check_page-broken}
use Rattle.html_page.proofs.checks.PageCheckLaws.{check_page-kept, check_page-paged}
use mathlib.Core.Path.{ap}
use mathlib.Core.Bool.{not}
use Rattle.html_page.proofs.checks.check_page.Goals as goal

pub returns-then-contradicts-clause-answer : goal.returns-then-contradicts-clause-answer
returns-then-contradicts-clause-answer c = check_page-contradicted _ _ c.contradicts.ensures c.if-contradicts.true

pub returns-then-table_empty-clause-answer : goal.returns-then-table_empty-clause-answer
returns-then-table_empty-clause-answer c = check_page-empty _ _ c.contradicts.ensures c.if-contradicts.false c.table_empty.ensures c.if-table_empty.true

pub too_large-requires : goal.too_large-requires
too_large-requires c = room-for-columns _ _ c.contradicts.ensures c.if-contradicts.false

pub returns-then-too_large-clause-answer : goal.returns-then-too_large-clause-answer
returns-then-too_large-clause-answer c =
    check_page-large _ _ c.contradicts.ensures c.if-contradicts.false c.table_empty.ensures c.if-table_empty.false c.too_large.ensures c.if-too_large.true

pub keeps_rules-requires : goal.keeps_rules-requires
keeps_rules-requires c =
    check_page-placed _ _ c.contradicts.ensures c.if-contradicts.false c.table_empty.ensures c.if-table_empty.false c.too_large.ensures c.if-too_large.false

pub returns-then-not-keeps_rules-clause-answer : goal.returns-then-not-keeps_rules-clause-answer
returns-then-not-keeps_rules-clause-answer c =
    check_page-broken _ _ c.contradicts.ensures c.if-contradicts.false c.table_empty.ensures c.if-table_empty.false c.too_large.ensures c.if-too_large.false
    c.keeps_rules.ensures (ap not c.if-not-keeps_rules.true)

pub returns-clause-answer : goal.returns-clause-answer
returns-clause-answer c =
    check_page-kept _ _ c.contradicts.ensures c.if-contradicts.false c.table_empty.ensures c.if-table_empty.false c.too_large.ensures c.if-too_large.false
    c.keeps_rules.ensures (ap not c.if-not-keeps_rules.false)

pub returns-clause-paged : goal.returns-clause-paged
returns-clause-paged c =
    check_page-paged _ _ c.contradicts.ensures c.if-contradicts.false c.table_empty.ensures c.if-table_empty.false c.too_large.ensures c.if-too_large.false
    c.keeps_rules.ensures (ap not c.if-not-keeps_rules.false)
