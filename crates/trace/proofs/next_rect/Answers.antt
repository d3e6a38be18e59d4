-- The search's answer, kept where the columns stand level.
use Rattle.trace.proofs.TracingLaws.{left-inside, next-none, next-uneven, next_level, level-asked}
use Rattle.trace.proofs.next_rect.Goals as goal

pub find_rect-requires : goal.find_rect-requires
find_rect-requires c = search left-inside

pub returns-in_err-far : goal.returns-in_err-far
returns-in_err-far c = rw c.from_residual.ensures (next-none c.requires.0 _ _ c.find_rect.ensures c.in_err-far.was)

pub is_level-requires : goal.is_level-requires
is_level-requires c = level-asked c.requires.0 _ _ c.find_rect.ensures c.in_ok-far.was

pub returns-then-is_level : goal.returns-then-is_level
returns-then-is_level c = next_level c.requires.0 _ _ c.find_rect.ensures c.in_ok-far.was _ c.is_level.ensures c.if-is_level.true

pub returns-else-is_level : goal.returns-else-is_level
returns-else-is_level c = next-uneven c.requires.0 _ _ c.find_rect.ensures c.in_ok-far.was _ c.is_level.ensures c.if-is_level.false
