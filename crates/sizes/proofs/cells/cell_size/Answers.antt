use Rattle.sizes.proofs.cells.SizeLaws.{none-sized, filled-sized, empty-sized, all-counted, all-across}
use borrow.Author.Rules.{rules}
use Rattle.sizes.proofs.cells.cell_size.Goals as goal
use Rattle.sizes.proofs.cells.cell_size.Goals.{else-from-to, then-from-to}

pub loop-i-init : goal.loop-i-init
loop-i-init c = search (rules, none-sized)

pub loop-i-preserved : goal.loop-i-preserved
loop-i-preserved c =
    elim c.if-from-to.branch [
      | then-from-to w ↦
          filled-sized _ _ _ _ c.requires.1 c.loop-i-test.true {wide = c.line_columns.result.0} c.loop-i.invariant c.max-columns.ensures c.line_columns.ensures w.if-from-to.true w.lines-is
      | else-from-to w ↦
          empty-sized _ _ _ _ c.requires.1 c.loop-i-test.true {wide = c.line_columns.result.0} c.loop-i.invariant c.max-columns.ensures c.line_columns.ensures w.if-from-to.false w.lines-is
    ]

pub returns : goal.returns
returns c = search (rules, all-counted, all-across)
