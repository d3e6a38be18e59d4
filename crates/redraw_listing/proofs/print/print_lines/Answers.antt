use Rattle.redraw_listing.proofs.print.PrintLaws.{printed-none, line-within, line-room, feed-room, printed-next, printed-all}
use borrow.Author.Rules.{rules}
use Rattle.redraw_listing.proofs.print.print_lines.Goals as goal

pub loop-length-init : goal.loop-length-init
loop-length-init c = search printed-none

pub split_at-requires : goal.split_at-requires
split_at-requires c = search (rules, line-within)

pub copy-end-requires : goal.copy-end-requires
copy-end-requires c = search (rules, line-room)

pub byte-end-requires : goal.byte-end-requires
byte-end-requires c = search (rules, feed-room)

pub loop-length-preserved : goal.loop-length-preserved
loop-length-preserved c =
    rw c.split_at.ensures.back
    (printed-next _ _ _ c.loop-length.invariant c.loop-length-test.true (rw c.split_at.ensures.front at c.copy-end.ensures) c.byte-end.ensures)

pub returns : goal.returns
returns c = search (rules, printed-all)
