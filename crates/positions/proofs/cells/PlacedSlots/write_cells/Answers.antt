-- `positions::cells::PlacedSlots::write_cells` meets its contract: a cell after the other is written.
use Rattle.std.proofs.Common.{length, ap, ◌∙◌}
use Rattle.representation.proofs.HeldLaws.{rect-holds}
use Rattle.representation.specs.LayoutEntries.{Inside}
use Rattle.positions.specs.Lent.{placed_by}
use Rattle.positions.specs.Spans.{rect_span}
use Rattle.positions.proofs.cells.RectLaws.{rect_spans_written-none, rect_spans_written-next, rect_spans_written-all}
use Rattle.positions.proofs.cells.PlacedSlots.write_cells.Goals as goal

pub loop-k-init : goal.loop-k-init
loop-k-init c = λ lines. rect_spans_written-none _ _ _ _ _ c.requires.room

pub position-requires : goal.position-requires
position-requires c =
    rw c.at.ensures.is (rect-holds (Inside (length c.args.self.now.lines.numbers.now) 128) c.args.rects.array.now c.args.rects.count c.loop-k.k c.loop-k-test.true c.requires.inside)

pub loop-k-preserved : goal.loop-k-preserved
loop-k-preserved c = λ lines.
    rect_spans_written-next (placed_by c.args.self.now.lines lines) _ _ _ _ _ _ (c.loop-k.invariant lines) c.loop-k-test.true _
    (c.position.ensures lines ∙ ap (rect_span _ _) c.at.ensures.is) _ c.write.ensures

pub returns : goal.returns
returns c = λ lines. rect_spans_written-all _ _ _ _ _ _ _ (c.loop-k.invariant lines) c.loop-k-test.false
