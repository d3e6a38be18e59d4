-- `table_checks::starts::all_start` meets its contract: from its calls.
use Rattle.table_checks.proofs.starts.StartLaws.{rows-small, start-told}
use mathlib.Core.Path.{refl}
use borrow.Author.Rules.{rules}
use Rattle.table_checks.proofs.starts.all_start.Goals as goal

pub starts-rows-requires : goal.starts-rows-requires
starts-rows-requires c = search (rules, rows-small)

pub returns-then-all_at : goal.returns-then-all_at
returns-then-all_at c =
    rw c.if-all_at.true at
    (start-told _ _ _ _ c.requires _ _ _ _ c.starts-rows.ensures c.starts-columns.ensures c.all_at.ensures c.all_at-then-all_at.ensures)

pub returns-else-all_at : goal.returns-else-all_at
returns-else-all_at c =
    rw (c.if-all_at.false) (rw c.if-all_at.false at (start-told _ _ _ _ c.requires _ _ _ _ c.starts-rows.ensures c.starts-columns.ensures c.all_at.ensures refl))
