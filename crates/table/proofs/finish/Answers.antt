-- `table::finish` meets its contract: what reading left gives each callee what it asks.
use mathlib.Core.Path.{sym, ◌∙◌}
use Rattle.reading.proofs.SheetLaws.{traced-room, traced-edges}
use Rattle.table.specs.Call.{arrays}
use Rattle.table.proofs.FinishLaws.{traced-preparable, finish-short, finish-writable, finish-written}
use Rattle.table.proofs.finish.Goals as goal

pub invariant_of-rects : goal.invariant_of-rects
invariant_of-rects c =
    let t = c.args.traced.traced in
    record { few = t.through.few; room = traced-room _ _ t; low = traced-edges _ _ t }

pub prepare-text-requires : goal.prepare-text-requires
prepare-text-requires c = traced-preparable _ _ c.args.traced.traced _ _ c.requires

pub returns-then-short : goal.returns-then-short
returns-then-short c =
    let told =
    finish-short c.args.traced.traced c.row_bounds-tops.ensures c.col_bounds-lefts.ensures c.prepare-text.new.starts c.bands.ensures c.bands-2.ensures
    c.prepare-text.ensures.lines c.prepare-text.ensures.bytes (arrays c.args.cols.now c.args.sections.now c.args.cells.now c.args.out_lengths.now c.args.out_text.now)
    (sym c.lacks_room-short.ensures ∙ c.if-short.true) in
    record { answer = told.0; written = told.1 }

pub write_table-requires : goal.write_table-requires
write_table-requires c =
    finish-writable c.args.traced.traced c.row_bounds-tops.ensures c.col_bounds-lefts.ensures c.prepare-text.new.starts c.bands.ensures c.bands-2.ensures
    c.prepare-text.ensures.lines c.prepare-text.ensures.bytes (arrays c.args.cols.now c.args.sections.now c.args.cells.now c.args.out_lengths.now c.args.out_text.now)
    (sym c.lacks_room-short.ensures ∙ c.if-short.false)
    c.prepare-text.ensures.ready c.prepare-text.ensures.counted c.prepare-text.ensures.few_bytes

pub returns : goal.returns
returns c =
    let told =
    finish-written c.args.traced.traced c.row_bounds-tops.ensures c.col_bounds-lefts.ensures c.prepare-text.new.starts c.bands.ensures c.bands-2.ensures
    c.prepare-text.ensures.lines c.prepare-text.ensures.bytes (arrays c.args.cols.now c.args.sections.now c.args.cells.now c.args.out_lengths.now c.args.out_text.now)
    (sym c.lacks_room-short.ensures ∙ c.if-short.false) _ c.write_table.ensures in
    record { answer = told.0; written = told.1 }
