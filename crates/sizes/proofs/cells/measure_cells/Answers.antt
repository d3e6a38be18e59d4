use Rattle.sizes.proofs.cells.CountLaws.{none-counted, cell-few, cell-measurable, lines_fit, first_fits, next_fits, first-room, height-room, wide_room, one-counted, all-counted}
use borrow.Author.Rules.{rules}
use Rattle.sizes.proofs.cells.measure_cells.Goals as goal

pub loop-k-init : goal.loop-k-init
loop-k-init c = search (rules, none-counted)

pub cell_size-size-requires : goal.cell_size-size-requires
cell_size-size-requires c = search (rules, cell-few, cell-measurable)

pub overflow_cast-firsts : goal.overflow_cast-firsts
overflow_cast-firsts c = search first_fits

pub overflow_add-first : goal.overflow_add-first
overflow_add-first c = search next_fits

pub loop-k-preserved : goal.loop-k-preserved
loop-k-preserved c = search (rules, one-counted)
