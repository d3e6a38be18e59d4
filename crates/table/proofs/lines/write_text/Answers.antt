use Rattle.table.proofs.lines.WriteLaws.{no-cell-lines, count-inside, cell-cuttable, line-count-fits, cell-line-room, cell-byte-room, cell-byte-few, cell-lines, all-lengths-written, all-text-written}
use Rattle.table.proofs.lines.write_text.Goals as goal

pub loop-k-init : goal.loop-k-init
loop-k-init c =
    no-cell-lines _ _ _ _ _ _ c.requires.framed c.requires.counted c.requires.line_room c.requires.byte_room c.requires.few_bytes

pub bounds-counts-k : goal.bounds-counts-k
bounds-counts-k c = search count-inside

pub write_lines-byte-requires-clause-cuttable : goal.write_lines-byte-requires-clause-cuttable
write_lines-byte-requires-clause-cuttable c = cell-cuttable _ _ _ _ _ _ _ _ _ _ _ c.loop-k.invariant c.loop-k-test.true c.at-rect.ensures

pub write_lines-byte-requires-clause-room : goal.write_lines-byte-requires-clause-room
write_lines-byte-requires-clause-room c = (
  cell-line-room _ _ _ _ _ _ _ _ _ _ _ c.loop-k.invariant c.loop-k-test.true c.at-rect.ensures,
  cell-byte-room _ _ _ _ _ _ _ _ _ _ _ c.loop-k.invariant c.loop-k-test.true c.at-rect.ensures,
  cell-byte-few _ _ _ _ _ _ _ _ _ _ _ c.loop-k.invariant c.loop-k-test.true c.at-rect.ensures,
)

pub overflow_add-line : goal.overflow_add-line
overflow_add-line c = line-count-fits _ _ _ _ _ _ _ _ _ _ _ c.loop-k.invariant c.loop-k-test.true c.at-rect.ensures c.args.rects.few

pub loop-k-preserved : goal.loop-k-preserved
loop-k-preserved c =
    cell-lines _ _ _ _ _ _ _ _ _ _ _ c.loop-k.invariant c.loop-k-test.true c.at-rect.ensures _ _ _ c.write_lines-byte.ensures.end
    c.write_lines-byte.ensures.lengths_written c.write_lines-byte.ensures.text_written

pub returns-clause-lengths_written : goal.returns-clause-lengths_written
returns-clause-lengths_written c = all-lengths-written _ _ _ _ _ _ _ _ _ _ _ c.loop-k.invariant c.loop-k-test.false

pub returns-clause-text_written : goal.returns-clause-text_written
returns-clause-text_written c = all-text-written _ _ _ _ _ _ _ _ _ _ _ c.loop-k.invariant c.loop-k-test.false
