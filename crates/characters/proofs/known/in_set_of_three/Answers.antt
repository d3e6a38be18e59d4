-- `characters::known::in_set_of_three` meets its contract: the ranges from 800 on.
use Rattle.text.proofs.CharactersLaws.{set-of-three}
use Rattle.characters.proofs.known.in_set_of_three.Goals as goal

pub returns : goal.returns
returns c = search set-of-three
