-- `utf8::from_two` meets its contract: a byte that goes on is at least 80, so the difference fits.
use Rattle.seq.proofs.ListsLaws.{within_low}
use Rattle.text.proofs.Utf8Laws.{from-two-refused, from-two-is}
use Rattle.utf8.proofs.from_two.Goals as goal

pub overflow_sub-value-then-is_continuation : goal.overflow_sub-value-then-is_continuation
overflow_sub-value-then-is_continuation c = within_low 0x80 0xbf _ (cc)

pub returns-then-is_continuation : goal.returns-then-is_continuation
returns-then-is_continuation c = search from-two-is

pub returns : goal.returns
returns c = search from-two-refused
