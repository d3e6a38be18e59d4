-- One name that opens every definition of this crate and of those below, for what is proved by computing.
use Rattle.grid.specs.Computing.{reading}
use Rattle.sourcepos.specs.Positions.{whole_lines, no_lines, table_position, row_position, cell_position}
use Rattle.sourcepos.specs.PositionsCall.{placed_contradicts, placed_of, numbers_too_large, placed_layout, position_arrays, positions_accept, positions_answer, positions_afterwards, cell_position_answer}
use Rattle.sourcepos.specs.LineEnds.{last_end, find_eol, remap}
use Rattle.sourcepos.specs.LineEndCalls.{register_contradicts, ends_of, bad_end, end_too_large, add_answer, add_afterwards, find_answer, remap_answer}

unfoldable pub positions : Unit {0}
unfolding reading whole_lines no_lines table_position row_position cell_position placed_contradicts placed_of numbers_too_large placed_layout position_arrays positions_accept positions_answer positions_afterwards cell_position_answer last_end find_eol remap register_contradicts ends_of bad_end end_too_large add_answer add_afterwards find_answer remap_answer
positions = tt
