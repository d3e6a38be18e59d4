use borrow.Author.Rules.{rules}
use Rattle.layout.proofs.cell_entries.CellEntryLaws.{no_span, spans-next, spans-done, rows-in-order, columns-in-order}
use Rattle.layout.proofs.cell_entries.write_spans.Goals as goal

pub loop-k-init : goal.loop-k-init
loop-k-init c = search (rules, no_span)

pub overflow_sub-columns : goal.overflow_sub-columns
overflow_sub-columns c = columns-in-order c.args.rects c.args.rows c.args.columns c.requires.numbered _ (search rules) _ c.at-rect.ensures.is

pub overflow_sub-rows : goal.overflow_sub-rows
overflow_sub-rows c = rows-in-order c.args.rects c.args.rows c.args.columns c.requires.numbered _ (search rules) _ c.at-rect.ensures.is

pub loop-k-preserved : goal.loop-k-preserved
loop-k-preserved c =
    spans-next c.args.rects c.args.rows c.args.columns _ _ _ _ _ _ c.loop-k.invariant (search rules) c.requires.numbered _ c.at-rect.ensures.is _ c.requires.room
    (rw (← c.from-in-loop-k-2.ensures, ← c.from-in-loop-k-3.ensures, ← c.from-in-loop-k-4.ensures, ← c.from-in-loop-k.ensures, ← c.from.ensures) c.write_cell.ensures)

pub returns : goal.returns
returns c = search (rules, spans-done)
