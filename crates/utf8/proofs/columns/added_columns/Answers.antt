use borrow.Author.Rules.{rules}
use Rattle.text.proofs.ByteColumnsLaws.{added_none, added_next, added-fits, added-all, added-few}
use Rattle.utf8.proofs.columns.added_columns.Goals as goal

pub loop-b-init : goal.loop-b-init
loop-b-init c = search added_none

pub overflow_add-n : goal.overflow_add-n
overflow_add-n c = search added-fits

pub loop-b-preserved : goal.loop-b-preserved
loop-b-preserved c = search added_next

pub returns : goal.returns
returns c = search (rules, added-all, added-few)
