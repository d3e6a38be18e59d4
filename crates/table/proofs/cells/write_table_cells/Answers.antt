-- `table::cells::write_table_cells` meets its contract: the number more of a cell is how many lines it has.
use Rattle.table.proofs.cells.WriteLaws.{counts-room, counts-more}
use Rattle.table.proofs.cells.write_table_cells.Goals as goal

pub write_spans-requires-clause-more_room : goal.write_spans-requires-clause-more_room
write_spans-requires-clause-more_room c = counts-room _ _ c.requires.count_room c.args.rects.few

pub returns : goal.returns
returns c f counted = c.write_spans.ensures f (counts-more f _ _ _ counted)
