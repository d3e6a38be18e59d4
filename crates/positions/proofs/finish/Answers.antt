-- `positions::finish` meets its contract: 12, or the positions written.
use Rattle.std.proofs.Common.{arith, inl, inr}
use Rattle.reading.specs.Call.{lines_in}
use Rattle.reading.specs.Sheets.{arrays_in}
use Rattle.reading.proofs.SheetLaws.{traced-some, traced-room, traced-edges}
use Rattle.cell.proofs.FrameLaws.{traced-startable}
use Rattle.sourcepos.specs.PositionsCall.{positions_lent}
use Rattle.positions.proofs.SpansLaws.{placed-inside}
use Rattle.positions.proofs.FinishLaws.{spans-refused, rows-inside, lines-started, spans-written}
use Rattle.positions.proofs.finish.Goals as goal
use Rattle.positions.proofs.finish.Goals.{then-row_positions-rows-via-then-row_positions-rows, then-row_positions-rows-via-else-row_positions-rows+then-cell_positions-rects}

pub invariant_of-rects : goal.invariant_of-rects
invariant_of-rects c =
    let t = c.args.traced.traced in
    record { few = t.through.few; room = traced-room _ _ t; low = traced-edges _ _ t }

pub returns-then-row_positions-rows : goal.returns-then-row_positions-rows
returns-then-row_positions-rows c =
    let t = c.args.traced in
    let (answer, written) =
    spans-refused (arrays_in t) t.reading.cells c.args.lines.numbers.now c.args.lines.table_bytes.now c.row_bounds-tops.ensures c.bands-rows.result c.bands-rows.ensures
    (positions_lent c.args.row_positions.now c.args.cell_positions.now)
    (elim c.then-row_positions-rows.branch [
      | then-row_positions-rows-via-then-row_positions-rows w ↦ inl w.if-row_positions-rows.true
      | then-row_positions-rows-via-else-row_positions-rows+then-cell_positions-rects w ↦ inr w.if-cell_positions-rects.true
    ]) in
    record { answer = answer; written = written }

pub line_starts-requires : goal.line_starts-requires
line_starts-requires c = traced-startable _ _ c.args.traced.traced _ c.requires.room

pub invariant_of-started : goal.invariant_of-started
invariant_of-started c =
    record { started = lines-started c.args.traced.traced c.args.starts.now c.requires.room _ c.line_starts.ensures.starts_len_unchanged c.line_starts.ensures.by_index; agree = c.requires.agree }

pub write_rows-requires-clause-inside : goal.write_rows-requires-clause-inside
write_rows-requires-clause-inside c =
    let t = c.args.traced in rows-inside (arrays_in t) t.reading.cells c.args.lines.numbers.now c.args.lines.table_bytes.now c.row_bounds-tops.ensures

pub write_cells-requires-clause-inside : goal.write_cells-requires-clause-inside
write_cells-requires-clause-inside c = placed-inside c.args.traced.traced c.args.lines.numbers.now c.requires.agree

pub overflow_sub-height : goal.overflow_sub-height
overflow_sub-height c = let t = c.args.traced in traced-some (arrays_in t) t.reading t.traced

pub whole-requires : goal.whole-requires
whole-requires c = let t = c.args.traced in let some = traced-some (arrays_in t) t.reading t.traced in (some, omega arith)

pub returns : goal.returns
returns c =
    let t = c.args.traced in
    let (answer, written) =
    spans-written (arrays_in t) t.reading.cells c.args.lines.numbers.now c.args.lines.table_bytes.now c.row_bounds-tops.ensures c.bands-rows.result c.bands-rows.ensures
    (positions_lent c.args.row_positions.now c.args.cell_positions.now) c.if-row_positions-rows.false c.if-cell_positions-rects.false _ (c.whole.ensures t.drawing.columns.now) _ _
    (c.write_rows.ensures t.drawing.columns.now) (c.write_cells.ensures (lines_in (arrays_in t))) in
    record { answer = answer; written = written }
