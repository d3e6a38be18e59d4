use borrow.Author.Rules.{rules}
use Rattle.slots.proofs.fill.SheetLaws.{sheet-starts, each_fits, each-inside, each-room, sheet-next, sheet-wrong, sheet-done}
use Rattle.slots.proofs.fill.fill.Goals as goal

pub loop-y-init : goal.loop-y-init
loop-y-init c = search (rules, sheet-starts)

pub overflow_add-end : goal.overflow_add-end
overflow_add-end c = search each_fits

pub slice_bounds-line-end : goal.slice_bounds-line-end
slice_bounds-line-end c = search each-inside

pub fill_next-requires : goal.fill_next-requires
fill_next-requires c = search each-room

pub returns-then-not-fill_next : goal.returns-then-not-fill_next
returns-then-not-fill_next c = search sheet-wrong

pub loop-y-preserved : goal.loop-y-preserved
loop-y-preserved c = (search rules, search rules, search sheet-next)

pub returns : goal.returns
returns c = search sheet-done
