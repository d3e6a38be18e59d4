use Rattle.layout.proofs.range_entries.RangesLaws.{all_ranges_written-none, rect-low, all_ranges_written-room, all_ranges_written-next, all_ranges_written-all}
use Rattle.representation.proofs.RectsHeld.{rect_inside}
use borrow.Author.Rules.{rules}
use Rattle.layout.proofs.range_entries.write_ranges.Goals as goal

pub loop-k-init : goal.loop-k-init
loop-k-init c = search (rules, all_ranges_written-none)

pub write_ranges_of-end-requires-clause-down : goal.write_ranges_of-end-requires-clause-down
write_ranges_of-end-requires-clause-down c =
    let i = rect_inside c.args.rects c.loop-k.k c.loop-k-test.true c.at.result c.at.ensures.is c.requires.inside in
    (i.down, i.tall)

pub write_ranges_of-end-requires-clause-room : goal.write_ranges_of-end-requires-clause-room
write_ranges_of-end-requires-clause-room c = search (rules, all_ranges_written-room)

pub write_ranges_of-end-requires-clause-low_bytes : goal.write_ranges_of-end-requires-clause-low_bytes
write_ranges_of-end-requires-clause-low_bytes c = search (rules, rect-low)

pub loop-k-preserved : goal.loop-k-preserved
loop-k-preserved c = search (rules, all_ranges_written-next)

pub returns : goal.returns
returns c = search (rules, all_ranges_written-all)
