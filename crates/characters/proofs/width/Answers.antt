-- `characters::width` meets its contract: the tests come in the order of the table's rows.
use Rattle.characters.proofs.WidthLaws.{tested-one, tested-none, tested-two, tested-outside}
use Rattle.characters.proofs.width.Goals as goal

pub returns-then-takes_one : goal.returns-then-takes_one
returns-then-takes_one c = search tested-one

pub returns-then-within : goal.returns-then-within
returns-then-within c = search tested-none

pub returns-then-takes_two : goal.returns-then-takes_two
returns-then-takes_two c = search tested-two

pub returns : goal.returns
returns c = search tested-outside
