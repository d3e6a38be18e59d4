-- `slots::line::plain_width` meets its contract: a plain line has a slot for each byte.
use Rattle.slots.proofs.line.PlainLaws.{plain-count}
use Rattle.slots.proofs.line.plain_width.Goals as goal

pub returns-clause-slots : goal.returns-clause-slots
returns-clause-slots c = search plain-count
