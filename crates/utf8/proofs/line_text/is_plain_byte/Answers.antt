-- `utf8::line_text::is_plain_byte` meets its contract: the test of the definition, made the other way round.
use Rattle.seq.proofs.ListsLaws.{within-tests}
use Rattle.utf8.proofs.line_text.is_plain_byte.Goals as goal

pub returns : goal.returns
returns c = search within-tests
