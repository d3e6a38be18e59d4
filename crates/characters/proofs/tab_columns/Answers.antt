-- `characters::tab_columns` meets its contract: the code is the definition.
use Rattle.text.specs.Characters.{tab_columns}
use mathlib.Core.Path.{refl}
use Rattle.characters.proofs.tab_columns.Goals as goal

pub returns : goal.returns
unfolding tab_columns
returns c = refl
