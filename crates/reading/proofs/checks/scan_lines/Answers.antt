use borrow.Author.Rules.{rules}
use Rattle.reading.proofs.checks.ScanLaws.{lines_start, line-within, line-fits, line_plain, line-scannable, line-outside, line-next, lines-known, plain_known}
use mathlib.Core.Path.{ap}
use mathlib.Core.Bool.{not}
use Rattle.reading.proofs.checks.scan_lines.Goals as goal

pub returns-then-known-text : goal.returns-then-known-text
returns-then-known-text c =
    plain_known _ _ _ _ _ _ _ _ c.plain_start-known.ensures.1 (search rules) (c.fill.ensures.after (λ y e. search rules)) (search rules)

pub loop-y-init : goal.loop-y-init
loop-y-init c = search lines_start

pub overflow_add-end : goal.overflow_add-end
overflow_add-end c = search line-fits

pub slice_bounds-scan_next-end : goal.slice_bounds-scan_next-end
slice_bounds-scan_next-end c = search line-within

pub scan_next-requires : goal.scan_next-requires
scan_next-requires c = (search line_plain, search line-scannable)

pub returns-then-not-scan_next : goal.returns-then-not-scan_next
returns-then-not-scan_next c = search (line-outside, c.scan_next.ensures, (ap not c.if-not-scan_next.true))

pub loop-y-preserved : goal.loop-y-preserved
loop-y-preserved c = search line-next

pub returns : goal.returns
returns c = search lines-known
