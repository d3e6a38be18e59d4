use borrow.Author.Rules.{rules}
use Rattle.slots.proofs.scan.ScanLaws.{next-plain, next-ascii, next-narrow, marks-room, next_marks, next-wide, scan-ends, scan-outside, scan-control, span-few, count_fits}
use mathlib.Core.Path.{ap, refl}
use mathlib.Core.Bool.{not}
use Rattle.slots.proofs.scan.scan_line.Goals as goal

pub loop-byte-preserved-then-within : goal.loop-byte-preserved-then-within
loop-byte-preserved-then-within c = search next-plain

pub returns-then-not-in_set : goal.returns-then-not-in_set
returns-then-not-in_set c = search scan-control

pub put_within-requires-then-a-lt128 : goal.put_within-requires-then-a-lt128
put_within-requires-then-a-lt128 c = search (rules, span-few)

pub overflow_add-n-then-a-lt128 : goal.overflow_add-n-then-a-lt128
overflow_add-n-then-a-lt128 c = search count_fits

pub loop-byte-preserved-then-a-lt128 : goal.loop-byte-preserved-then-a-lt128
loop-byte-preserved-then-a-lt128 c =
    next-ascii _ _ _ _ _ _ _ _ _ c.loop-byte.invariant c.requires.2 c.requires.3 _ refl _ _ c.if-a-lt128.true c.in_set.ensures (ap not c.if-not-in_set.false) c.span_in_set-count.ensures _ _ c.put_within-then-a-lt128.ensures

pub returns-then-not-is_two : goal.returns-then-not-is_two
returns-then-not-is_two c = search scan-outside

pub loop-byte-preserved-then-a-lt204 : goal.loop-byte-preserved-then-a-lt204
loop-byte-preserved-then-a-lt204 c =
    next-narrow _ _ _ _ _ _ _ _ _ c.loop-byte.invariant c.requires.2 c.requires.3 _ refl _ (ap not c.if-not-is_two.false) c.is_two.ensures c.if-a-lt128.false c.if-a-lt204.true _ _ c.put_within-then-a-lt204.ensures

pub returns-then-not-is_two-2 : goal.returns-then-not-is_two-2
returns-then-not-is_two-2 c = search scan-outside

pub marks_end-byte-requires : goal.marks_end-byte-requires
marks_end-byte-requires c = search (rules, marks-room)

pub loop-byte-preserved-then-a-lt224 : goal.loop-byte-preserved-then-a-lt224
loop-byte-preserved-then-a-lt224 c = search next_marks

pub returns-then-not-is_three : goal.returns-then-not-is_three
returns-then-not-is_three c = search scan-outside

pub loop-byte-preserved : goal.loop-byte-preserved
loop-byte-preserved c =
    next-wide _ _ _ _ _ _ _ _ _ c.loop-byte.invariant c.requires.2 c.requires.3 _ refl _ (ap not c.if-not-is_three.false) c.is_three.ensures c.if-a-lt224.false _ _ c.put_within-else-a-lt224.ensures

pub returns : goal.returns
returns c = search scan-ends
