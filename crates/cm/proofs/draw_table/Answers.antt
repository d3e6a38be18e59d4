-- `cm::draw_table` meets its contract: 9, 10, and the drawing of the table as measured.
use mathlib.Core.List.{[]}
use Rattle.drawing.specs.RedrawCall.{drawing_lent}
use Rattle.sizes.proofs.FactLaws.{tabled-facts}
use Rattle.alignment.proofs.AlignmentLaws.{tabled-markable}
use Rattle.cm.proofs.SketchLaws.{table-planned, table-sketched, table-texted}
use Rattle.cm.proofs.TableLaws.{origin-low, foot-refused, table-headed, corner-refused, late-same}
use Rattle.cm.proofs.draw_table.Goals as goal

pub measure_table-offsets-requires-clause-by_index : goal.measure_table-offsets-requires-clause-by_index
measure_table-offsets-requires-clause-by_index c = (_, c.requires.tabled)

pub returns-then-foots-heads : goal.returns-then-foots-heads
returns-then-foots-heads c = foot-refused c.requires.tabled c.count_sections-counts.ensures _ c.if-foots-heads.true

pub corners_on-corners-requires : goal.corners_on-corners-requires
corners_on-corners-requires c = tabled-markable c.requires.tabled

pub misaligned-requires : goal.misaligned-requires
misaligned-requires c = let facts = tabled-facts c.requires.tabled in (facts.few_columns, facts.cols_room)

pub returns-in-Some : goal.returns-in-Some
returns-in-Some c =
    corner-refused c.requires.tabled c.count_sections-counts.ensures _ c.if-foots-heads.false c.corners_on-corners.ensures _ c.misaligned.ensures _ c.in-Some.is

pub invariant_of-plan : goal.invariant_of-plan
invariant_of-plan c = record { planned = table-planned c.requires.tabled c.measure_table-offsets.ensures c.count_sections-counts.ensures c.corners_on-corners.ensures }

pub draw_sized-requires-clause-room : goal.draw_sized-requires-clause-room
draw_sized-requires-clause-room c = (origin-low c.requires.tabled, c.requires.canvas_room.1, c.requires.canvas_room.2)

pub draw_sized-requires-clause-sketched : goal.draw_sized-requires-clause-sketched
draw_sized-requires-clause-sketched c =
    (_, table-sketched c.requires.tabled c.measure_table-offsets.ensures c.count_sections-counts.ensures c.corners_on-corners.ensures (table-headed c.requires.tabled c.count_sections-counts.ensures (drawing_lent [] [] []) c.if-foots-heads.false), table-texted c.requires.tabled c.measure_table-offsets.ensures c.count_sections-counts.ensures)

pub returns : goal.returns
returns c =
    let headed = table-headed c.requires.tabled c.count_sections-counts.ensures (drawing_lent [] [] []) c.if-foots-heads.false in
    late-same c.requires.tabled c.count_sections-counts.ensures _ c.if-foots-heads.false c.corners_on-corners.ensures _ c.misaligned.ensures c.in_default.is _ _
    (c.draw_sized.ensures _ (table-sketched c.requires.tabled c.measure_table-offsets.ensures c.count_sections-counts.ensures c.corners_on-corners.ensures headed) (table-texted c.requires.tabled c.measure_table-offsets.ensures c.count_sections-counts.ensures))
