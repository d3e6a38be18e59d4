-- `cell::source::Source::cut_line` meets its contract: the piece is a part of the whole text.
use Rattle.cell.proofs.pieces.PieceLaws.{piece_inside, piece-end-fits, piece-start-fits, piece_cut}
use Rattle.cell.proofs.source.Source.cut_line.Goals as goal

pub overflow_add-from : goal.overflow_add-from
overflow_add-from c = search piece-start-fits

pub overflow_add-to : goal.overflow_add-to
overflow_add-to c = search piece-end-fits

pub slice_bounds-result-end : goal.slice_bounds-result-end
slice_bounds-result-end c = search piece_inside

pub returns : goal.returns
returns c = search piece_cut
