-- `table::write_table` meets its contract: the parts are found, then the four writers in turn, each on its own arrays.
use Rattle.cell.proofs.FrameLaws.{traced-framed}
use Rattle.reading.proofs.SheetLaws.{traced-some, traced-room, traced-edges}
use Rattle.layout.proofs.FoundLaws.{parts-head-line, rects-found-numbered}
use Rattle.table.proofs.FinishLaws.{writable-head-low, writable-count-room, writable-written}
use Rattle.table.proofs.write_table.Goals as goal

pub invariant_of-rects : goal.invariant_of-rects
invariant_of-rects c =
    let t = c.args.traced.traced in
    record { few = t.through.few; room = traced-room _ _ t; low = traced-edges _ _ t }

pub invariant_of-source : goal.invariant_of-source
invariant_of-source c = record { ready = c.requires.ready }

pub write_text-requires-clause-framed : goal.write_text-requires-clause-framed
write_text-requires-clause-framed c = traced-framed _ _ c.args.traced.traced _

pub find_parts-parts-requires : goal.find_parts-parts-requires
find_parts-parts-requires c = traced-some _ _ c.args.traced.traced

pub trimmed_line-requires : goal.trimmed_line-requires
trimmed_line-requires c =
    let t = c.args.traced.traced in
    (t.sheet.bytes_agree, parts-head-line t _ (c.find_parts-parts.ensures.head, c.find_parts-parts.ensures.foot))

pub invariant_of-line : goal.invariant_of-line
invariant_of-line c =
    let t = c.args.traced.traced in
    record {
      glyph_room = t.roomy.glyph_room;
      offset_room = t.roomy.offset_room;
      low = writable-head-low t c.requires _ (c.find_parts-parts.ensures.head, c.find_parts-parts.ensures.foot);
    }

pub write_table_cells-requires : goal.write_table_cells-requires
write_table_cells-requires c =
    record {
      room = c.requires.cell_room;
      count_room = writable-count-room c.args.traced.traced c.requires;
      numbered = rw (c.numbering-rows.ensures, c.numbering.ensures) (rects-found-numbered c.args.traced.traced c.requires.rows_found c.requires.columns_found);
    }

pub returns : goal.returns
returns c =
    writable-written c.args.traced.traced c.requires _ (c.find_parts-parts.ensures.head, c.find_parts-parts.ensures.foot) c.trimmed_line.ensures
    c.write_columns.ensures (rw c.numbering-rows.ensures at c.write_sections.ensures) (rw (c.numbering-rows.ensures, c.numbering.ensures) at c.write_table_cells.ensures) c.write_text.ensures.lengths_written c.write_text.ensures.text_written
