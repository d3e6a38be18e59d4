-- `utf8::columns::byte_columns` meets its contract, by the byte's range.
use Rattle.text.proofs.ByteColumnsLaws.{adds-tab, adds-ascii, adds-after, adds_one, adds-mark, adds-two}
use Rattle.utf8.proofs.columns.byte_columns.Goals as goal

pub returns-then-b-eq9 : goal.returns-then-b-eq9
returns-then-b-eq9 c = search adds-tab

pub returns-else-b-eq9 : goal.returns-else-b-eq9
returns-else-b-eq9 c = search adds-ascii

pub returns-then-b-lt192 : goal.returns-then-b-lt192
returns-then-b-lt192 c = search adds-after

pub returns-then-b-lt204 : goal.returns-then-b-lt204
returns-then-b-lt204 c = search adds_one

pub returns-then-b-lt224 : goal.returns-then-b-lt224
returns-then-b-lt224 c = search adds-mark

pub returns-else-b-lt224 : goal.returns-else-b-lt224
returns-else-b-lt224 c = search adds-two
