-- `cell::source::Source::piece_at` meets its contract: the line is the definition's, and so is its piece.
use borrow.Author.Rules.{rules}
use Rattle.cell.proofs.pieces.PieceLaws.{cuttable-inside, cuttable-fits, cuttable-low, cuttable-start-fits, cuttable-checked, piece-told}
use Rattle.cell.proofs.source.Source.piece_at.Goals as goal

pub overflow_add-to : goal.overflow_add-to
overflow_add-to c = search cuttable-fits

pub slice_bounds-line-end : goal.slice_bounds-line-end
slice_bounds-line-end c = search cuttable-inside

pub overflow_add-start : goal.overflow_add-start
overflow_add-start c = search cuttable-start-fits

pub cut_part-requires : goal.cut_part-requires
cut_part-requires c = search cuttable-checked

pub returns : goal.returns
returns c = search piece-told
