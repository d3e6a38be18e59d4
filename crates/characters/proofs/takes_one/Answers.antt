-- `characters::takes_one` meets its contract: each range is its own call.
use Rattle.characters.proofs.takes_one.Goals as goal

pub returns : goal.returns
returns c = cc
