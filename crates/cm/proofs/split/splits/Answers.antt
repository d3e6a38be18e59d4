-- `cm::split::splits` meets its contract: a line without text, no `+` that meets another, or all lines counted.
use mathlib.Core.Path.{refl, ap, ◌∙◌}
use mathlib.Core.Bool.{not}
use borrow.Author.Rules.{rules}
use Rattle.cm.proofs.split.CellLaws.{height-room, lines-some, top_above, column-low, canvas-room, lines-low, lines-asked, hits-room, cell-short, cell_apart, cell-hit}
use Rattle.cm.proofs.split.splits.Goals as goal

pub overflow_sub-lines : goal.overflow_sub-lines
overflow_sub-lines c = top_above c.args.board.now c.requires.ready _ c.requires.cell _ c.at-rect.ensures

pub overflow_sub-lines-2 : goal.overflow_sub-lines-2
overflow_sub-lines-2 c = lines-some c.args.board.now c.requires.ready _ c.requires.cell _ c.at-rect.ensures

pub bounds-lettering-k : goal.bounds-lettering-k
bounds-lettering-k c = height-room c.args.board.now c.requires.ready _ c.requires.cell

pub returns-then-lettering-k : goal.returns-then-lettering-k
returns-then-lettering-k c = λ v R. cell-short c.args.board.now c.requires.ready _ c.requires.cell _ c.at-rect.ensures v R c.if-lettering-k.true

pub split_column-requires-clause-low : goal.split_column-requires-clause-low
split_column-requires-clause-low c = column-low c.args.board.now c.requires.ready _ c.requires.cell _ c.at-rect.ensures

pub split_column-requires-clause-room : goal.split_column-requires-clause-room
split_column-requires-clause-room c = (canvas-room c.args.board.now c.requires.ready _ c.requires.cell _ c.at-rect.ensures, refl)

pub returns-then-not-split_column : goal.returns-then-not-split_column
returns-then-not-split_column c =
    λ v R. cell_apart c.args.board.now c.requires.ready _ c.requires.cell _ c.at-rect.ensures v R _ c.split_column.ensures (ap not c.if-not-split_column.true)

pub overflow_add-from : goal.overflow_add-from
overflow_add-from c = let low = lines-low c.args.board.now c.requires.ready _ c.requires.cell _ c.at-rect.ensures in search rules

pub overflow_add-column : goal.overflow_add-column
overflow_add-column c = let low = lines-low c.args.board.now c.requires.ready _ c.requires.cell _ c.at-rect.ensures in search rules

pub overflow_add-column-2 : goal.overflow_add-column-2
overflow_add-column-2 c = let low = lines-low c.args.board.now c.requires.ready _ c.requires.cell _ c.at-rect.ensures in search rules

pub hit_lines-hits-requires-clause-near : goal.hit_lines-hits-requires-clause-near
hit_lines-hits-requires-clause-near c = lines-low c.args.board.now c.requires.ready _ c.requires.cell _ c.at-rect.ensures

pub hit_lines-hits-requires-clause-lettered : goal.hit_lines-hits-requires-clause-lettered
hit_lines-hits-requires-clause-lettered c = lines-asked c.args.board.now c.requires.ready _ c.requires.cell _ c.at-rect.ensures

pub split_column-requires-2-clause-low : goal.split_column-requires-2-clause-low
split_column-requires-2-clause-low c = column-low c.args.board.now c.requires.ready _ c.requires.cell _ c.at-rect.ensures

pub split_column-requires-2-clause-room : goal.split_column-requires-2-clause-room
split_column-requires-2-clause-room c =
    (canvas-room c.args.board.now c.requires.ready _ c.requires.cell _ c.at-rect.ensures, hits-room c.args.board.now c.requires.ready _ c.requires.cell _ c.at-rect.ensures _ c.hit_lines-hits.ensures)

pub returns : goal.returns
returns c = λ v R. c.split_column-2.ensures ∙ cell-hit c.args.board.now c.requires.ready _ c.requires.cell _ c.at-rect.ensures v R _ c.hit_lines-hits.ensures
