-- `layout::cell_entries::write_cells` meets its contract: the number more of a cell is its left column.
use borrow.Author.Rules.{rules}
use Rattle.layout.proofs.cell_entries.CellEntryLaws.{lefts-written}
use Rattle.layout.proofs.cell_entries.write_cells.Goals as goal

pub returns : goal.returns
returns c = search (rules, lefts-written)
