use borrow.Author.Rules.{rules}
use Rattle.cell.proofs.pieces.PieceLaws.{starting-none, starting-room, starting-fits, starting-next, starting-all}
use Rattle.cell.proofs.pieces.line_starts.Goals as goal

pub loop-y-init : goal.loop-y-init
loop-y-init c = search (rules, starting-none)

pub bounds-starts-y : goal.bounds-starts-y
bounds-starts-y c = search starting-room

pub overflow_add-at : goal.overflow_add-at
overflow_add-at c = search starting-fits

pub loop-y-preserved : goal.loop-y-preserved
loop-y-preserved c = search (rules, starting-next)

pub returns-clause-by_index : goal.returns-clause-by_index
returns-clause-by_index c = search starting-all
