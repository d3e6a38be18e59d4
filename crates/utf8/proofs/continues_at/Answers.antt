-- `utf8::continues_at` meets its contract: from its calls.
use Rattle.utf8.proofs.continues_at.Goals as goal

pub returns : goal.returns
returns c = cc
