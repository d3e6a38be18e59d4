-- `characters::takes_two` meets its contract: each range is its own call.
use Rattle.characters.proofs.takes_two.Goals as goal

pub returns : goal.returns
returns c = cc
