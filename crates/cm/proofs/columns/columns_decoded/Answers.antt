use Rattle.text.proofs.Utf8Laws.{character-in-set}
use Rattle.cm.proofs.columns.WalkLaws.{walked_none, walked_next, walked_all, columns-room, columns-sum, bytes-room, bytes_left}
use Rattle.cm.proofs.columns.columns_decoded.Goals as goal

-- src/columns.rt:23:5
pub loop-byte-init : goal.loop-byte-init
loop-byte-init c = search walked_none

-- src/columns.rt:25:40
pub overflow_add-first : goal.overflow_add-first
overflow_add-first c = search columns-room

-- src/columns.rt:25:14
pub span_in_set-n-requires : goal.span_in_set-n-requires
span_in_set-n-requires c = search character-in-set

-- src/columns.rt:25:9
pub overflow_add-n : goal.overflow_add-n
overflow_add-n c = search columns-sum

-- src/columns.rt:26:9
pub overflow_add-byte : goal.overflow_add-byte
overflow_add-byte c = search bytes-room

-- src/columns.rt:23:5
pub loop-byte-smaller : goal.loop-byte-smaller
loop-byte-smaller c = search bytes_left

-- src/columns.rt:23:5
pub loop-byte-preserved : goal.loop-byte-preserved
loop-byte-preserved c = search walked_next

-- src/columns.rt:16:1
pub returns : goal.returns
returns c = search walked_all
