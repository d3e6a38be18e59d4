-- `page_listing::escape::escape_cells` meets its contract. The invariant: the first k cells are written, within the limit.
use Rattle.page_listing.proofs.escape.CellLaws.{Turned}
use Rattle.page_listing.proofs.escape.escape_cells.Given as goal

abbrev pub invariant-loop-k : goal.invariant-loop-k
invariant-loop-k l =
    Turned l.table.cells l.table.cell_entries.now l.table.lengths.now l.table.text.now l.initial.entries l.initial.inner l.entries l.inner l.k l.line l.used l.end
