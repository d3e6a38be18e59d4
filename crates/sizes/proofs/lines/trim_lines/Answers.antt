use borrow.Author.Rules.{rules}
use Rattle.sizes.proofs.lines.TrimmedLaws.{none-trimmed, line-end, line-fits, start_fits, start-room, end-room, end_fits, end-small, one-trimmed}
use Rattle.sizes.proofs.lines.trim_lines.Goals as goal

pub loop-i-init : goal.loop-i-init
loop-i-init c = search (rules, none-trimmed)

pub overflow_add-next : goal.overflow_add-next
overflow_add-next c = search (rules, line-fits)

pub slice_bounds-trim_end-end : goal.slice_bounds-trim_end-end
slice_bounds-trim_end-end c = search (rules, line-end)

pub overflow_cast-starts : goal.overflow_cast-starts
overflow_cast-starts c = search (rules, start_fits)

pub overflow_add-ends : goal.overflow_add-ends
overflow_add-ends c = search (rules, end_fits)

pub overflow_cast-ends : goal.overflow_cast-ends
overflow_cast-ends c = search (rules, end-small)

pub loop-i-preserved : goal.loop-i-preserved
loop-i-preserved c = search (rules, one-trimmed)
