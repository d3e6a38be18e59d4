-- `utf8::line_text::common_size` meets its contract, by the first byte's range.
use Rattle.utf8.proofs.CommonLaws.{common-ascii, common-narrow, common-mark, common-han}
use Rattle.utf8.proofs.line_text.common_size.Goals as goal

pub returns-then-within : goal.returns-then-within
returns-then-within c = search common-ascii

pub returns-then-continues_at : goal.returns-then-continues_at
returns-then-continues_at c = search common-narrow

pub returns-then-continues_at-2 : goal.returns-then-continues_at-2
returns-then-continues_at-2 c = search common-mark

pub returns-then-continues_at-4 : goal.returns-then-continues_at-4
returns-then-continues_at-4 c = search common-han
