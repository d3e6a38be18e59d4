-- `utf8::byte_or_zero` meets its contract: past the end a list reads as 0.
use Rattle.seq.proofs.ListsLaws.{read_past}
use Rattle.utf8.proofs.byte_or_zero.Goals as goal

pub returns-else-i-text : goal.returns-else-i-text
returns-else-i-text c = search read_past
