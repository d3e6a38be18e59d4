use Rattle.table_listing.proofs.print.CellLaws.{cells-none, used-fits, cells-next, cells-all}
use borrow.Author.Rules.{rules}
use Rattle.table_listing.proofs.print.cell_lines.Goals as goal

pub loop-i-init : goal.loop-i-init
loop-i-init c = search cells-none

pub overflow_add-used : goal.overflow_add-used
overflow_add-used c = search (rules, used-fits)

pub loop-i-preserved : goal.loop-i-preserved
loop-i-preserved c =
    cells-next c.args.table.cells c.args.table.cell_entries.now c.args.table.lengths.now c.args.table.text.now c.args.out.now c.args.at c.loop-i.invariant c.entry.result c.min-more.result c.text_lines-written.result c.loop-i-test.true c.entry.ensures c.min-more.ensures c.cell_line-end.ensures c.text_lines-written.ensures

pub returns : goal.returns
returns c = search cells-all
