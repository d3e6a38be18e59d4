use borrow.Author.Rules.{rules}
use Rattle.text.proofs.Utf8Laws.{character-in-set}
use Rattle.cm.proofs.columns.WalkLaws.{columns-room, columns-sum, bytes-room, bytes_left}
use Rattle.cm.proofs.split.HitLaws.{hit-none, hit-room, hit-next, hit-all}
use Rattle.cm.proofs.split.hit_line.Goals as goal

pub loop-byte-init : goal.loop-byte-init
loop-byte-init c = search hit-none

pub overflow_add-from : goal.overflow_add-from
overflow_add-from c = search (rules, hit-room)

pub bounds-lines-from : goal.bounds-lines-from
bounds-lines-from c = search (rules, hit-room)

pub overflow_add-lines : goal.overflow_add-lines
overflow_add-lines c = search (rules, hit-room)

pub bounds-lines-from-in-loop-byte : goal.bounds-lines-from-in-loop-byte
bounds-lines-from-in-loop-byte c = search (rules, hit-room)

pub overflow_add-first : goal.overflow_add-first
overflow_add-first c = search columns-room

pub span_in_set-n-requires : goal.span_in_set-n-requires
span_in_set-n-requires c = search character-in-set

pub overflow_add-n : goal.overflow_add-n
overflow_add-n c = search columns-sum

pub overflow_add-byte : goal.overflow_add-byte
overflow_add-byte c = search bytes-room

pub loop-byte-smaller : goal.loop-byte-smaller
loop-byte-smaller c = search bytes_left

pub loop-byte-preserved : goal.loop-byte-preserved
loop-byte-preserved c = search (hit-next, hit-room)

pub returns : goal.returns
returns c = search hit-all
