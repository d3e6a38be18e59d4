-- `characters::known::in_set_of_two` meets its contract: the ranges from 80 to 3040.
use Rattle.text.proofs.CharactersLaws.{set-of-two}
use Rattle.characters.proofs.known.in_set_of_two.Goals as goal

pub returns : goal.returns
returns c = search set-of-two
