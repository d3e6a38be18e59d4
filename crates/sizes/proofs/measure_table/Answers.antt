-- `sizes::measure_table` meets its contract: from its four calls.
use Rattle.sizes.proofs.TableLaws.{trim-asked, cells-asked, columns-asked, rows-asked, table-measured}
use Rattle.sizes.proofs.measure_table.Goals as goal

pub trim_lines-requires-clause-lengths_value : goal.trim_lines-requires-clause-lengths_value
trim_lines-requires-clause-lengths_value c = (trim-asked c.requires.by_index.1 c.args.starts.now c.args.ends.now c.requires.in_bounds).0

pub trim_lines-requires-clause-lengths_in_bounds : goal.trim_lines-requires-clause-lengths_in_bounds
trim_lines-requires-clause-lengths_in_bounds c = (trim-asked c.requires.by_index.1 c.args.starts.now c.args.ends.now c.requires.in_bounds).1

pub measure_cells-requires-clause-n_bound : goal.measure_cells-requires-clause-n_bound
measure_cells-requires-clause-n_bound c = (cells-asked c.requires.by_index.1 c.args.firsts.now c.args.heights.now c.args.wides.now c.trim_lines.ensures c.requires.in_bounds_2).0

pub measure_cells-requires-clause-measurable : goal.measure_cells-requires-clause-measurable
measure_cells-requires-clause-measurable c = (cells-asked c.requires.by_index.1 c.args.firsts.now c.args.heights.now c.args.wides.now c.trim_lines.ensures c.requires.in_bounds_2).1.0

pub measure_cells-requires-clause-n_in_bounds : goal.measure_cells-requires-clause-n_in_bounds
measure_cells-requires-clause-n_in_bounds c = (cells-asked c.requires.by_index.1 c.args.firsts.now c.args.heights.now c.args.wides.now c.trim_lines.ensures c.requires.in_bounds_2).1.1

pub column_offsets-requires-clause-columns_bound : goal.column_offsets-requires-clause-columns_bound
column_offsets-requires-clause-columns_bound c = (columns-asked c.requires.by_index.1 c.measure_cells.ensures).0

pub column_offsets-requires-clause-spanned : goal.column_offsets-requires-clause-spanned
column_offsets-requires-clause-spanned c = (columns-asked c.requires.by_index.1 c.measure_cells.ensures).1.1

pub row_offsets-requires : goal.row_offsets-requires
row_offsets-requires c = rows-asked c.requires.by_index.1 c.measure_cells.ensures

pub returns : goal.returns
returns c =
    table-measured c.requires.by_index.1 c.measure_cells.ensures c.trim_lines.ensures c.column_offsets.result c.row_offsets.result c.column_offsets.ensures c.row_offsets.ensures
