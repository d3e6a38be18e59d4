use borrow.Author.Rules.{rules}
use Rattle.page_listing.proofs.escape.LineLaws.{lines_none, line-within, line_small, break-low, line-asked, lines_next, lines-all}
use Rattle.page_listing.proofs.escape.escape_lines.Goals as goal

pub loop-i-init : goal.loop-i-init
loop-i-init c = search lines_none

pub overflow_add-stop : goal.overflow_add-stop
overflow_add-stop c = search (rules, line_small _ _ _ _ c.loop-i.invariant c.loop-i-test.true)

pub break_before-parted-requires : goal.break_before-parted-requires
break_before-parted-requires c = search break-low

pub slice_bounds-escape_line-end : goal.slice_bounds-escape_line-end
slice_bounds-escape_line-end c = search line-within

pub escape_line-end-requires : goal.escape_line-end-requires
escape_line-end-requires c = line-asked _ _ _ _ c.loop-i.invariant c.loop-i-test.true c.break_before-parted.ensures

pub loop-i-preserved : goal.loop-i-preserved
loop-i-preserved c = lines_next _ _ _ _ c.loop-i.invariant c.loop-i-test.true c.break_before-parted.ensures c.escape_line-end.ensures (search rules)

pub returns : goal.returns
returns c = lines-all _ _ _ _ c.loop-i.invariant c.loop-i-test.false
