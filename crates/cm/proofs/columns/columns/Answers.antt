-- `cm::columns::columns` meets its contract: what the bytes add, or, where there is a tab, character by character.
use Rattle.cm.proofs.columns.WalkLaws.{added-columns}
use Rattle.cm.proofs.columns.columns.Goals as goal

pub returns : goal.returns
returns c = search added-columns
