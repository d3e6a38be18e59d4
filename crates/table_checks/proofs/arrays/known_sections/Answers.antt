use Rattle.table_checks.proofs.arrays.ArrayLaws.{section-unknown, section-known, unknown-here, known-here, all_known}
use Rattle.table_checks.proofs.arrays.known_sections.Goals as goal

pub returns-then-is_err : goal.returns-then-is_err
returns-then-is_err c = unknown-here _ _ c.loop-code.invariant c.loop-code-test.true (section-unknown _ _ c.try_from.ensures c.if-is_err.ensures.value)

pub loop-code-preserved : goal.loop-code-preserved
loop-code-preserved c = known-here _ _ c.loop-code.invariant c.loop-code-test.true (section-known _ _ c.try_from.ensures c.if-is_err.ensures.value)

pub returns : goal.returns
returns c = search all_known
