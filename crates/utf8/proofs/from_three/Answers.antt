-- `utf8::from_three` meets its contract: bytes that go on are at least 80, so the differences fit.
use Rattle.text.proofs.Utf8Laws.{second-low, third-low, from-three-refused, from-three-is}
use Rattle.utf8.proofs.from_three.Goals as goal

pub overflow_sub-value-then-is_continuation : goal.overflow_sub-value-then-is_continuation
overflow_sub-value-then-is_continuation c = search second-low

pub overflow_sub-value-then-is_continuation-2 : goal.overflow_sub-value-then-is_continuation-2
overflow_sub-value-then-is_continuation-2 c = search third-low

pub returns-then-is_continuation : goal.returns-then-is_continuation
returns-then-is_continuation c = search from-three-is

pub returns : goal.returns
returns c = search from-three-refused
