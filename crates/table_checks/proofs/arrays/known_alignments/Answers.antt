use Rattle.table_checks.proofs.arrays.ArrayLaws.{alignment-unknown, alignment-known, unaligned-here, aligned-here, all_aligned}
use Rattle.table_checks.proofs.arrays.known_alignments.Goals as goal

pub returns-then-is_err : goal.returns-then-is_err
returns-then-is_err c = unaligned-here _ _ _ c.loop-k.invariant c.loop-k-test.true (alignment-unknown _ _ c.try_from.ensures c.if-is_err.ensures.value)

pub loop-k-preserved : goal.loop-k-preserved
loop-k-preserved c = aligned-here _ _ _ c.loop-k.invariant c.loop-k-test.true (alignment-known _ _ c.try_from.ensures c.if-is_err.ensures.value)

pub returns : goal.returns
returns c = search all_aligned
