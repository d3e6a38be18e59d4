-- `cm::draw::finish` meets its contract: drawn size (2), 11, 12 and the drawing, in the order of the definition.
use mathlib.Core.List.{[]}
use lib.ListN.{length}
use Rattle.drawing.specs.RedrawCall.{drawing_lent}
use Rattle.cm.proofs.draw.LateLaws.{room-left, height-low, late-large, lengths_short, late-split, late-short, late-drawn}
use Rattle.cm.proofs.draw.finish.Goals as goal

pub lines_too_large-requires : goal.lines_too_large-requires
lines_too_large-requires c =
    let (v, R, h) = c.requires in
    let C = c.count_lines-sizes.ensures v R h in (height-low R _ _ h c.args.board.now.near _ C (drawing_lent [] [] []), C.room)

pub returns-then-lines_too_large : goal.returns-then-lines_too_large
returns-then-lines_too_large c =
    λ v R h. late-large R _ _ h c.args.board.now.near _ (c.count_lines-sizes.ensures v R h) _ _ c.lines_too_large.ensures c.if-lines_too_large.true

pub first_split-requires : goal.first_split-requires
first_split-requires c = let (v, R, _) = c.requires in (v, R)

pub returns-in-Some : goal.returns-in-Some
returns-in-Some c =
    λ v R h. late-split R _ _ h c.args.board.now.near _ (c.count_lines-sizes.ensures v R h) _ _ c.lines_too_large.ensures c.if-lines_too_large.false _ _ (c.first_split.ensures v R) c.in-Some.is

pub returns-then-out_lengths-lines : goal.returns-then-out_lengths-lines
returns-then-out_lengths-lines c =
    λ v R h. late-short R _ _ h c.args.board.now.near _ (c.count_lines-sizes.ensures v R h) _ _ c.lines_too_large.ensures c.if-lines_too_large.false _ (c.first_split.ensures v R) c.in_default.is c.if-out_lengths-lines.true

pub write_sizes-requires-clause-small : goal.write_sizes-requires-clause-small
write_sizes-requires-clause-small c =
    let (v, R, h) = c.requires in
    let C = c.count_lines-sizes.ensures v R h in (
      height-low R _ _ h c.args.board.now.near _ C (drawing_lent [] [] []),
      C.room,
      c.args.board.now.near,
      lengths_short R _ _ h c.args.board.now.near _ C (drawing_lent [] [] []) _ c.lines_too_large.ensures c.if-lines_too_large.false,
    )

pub write_sizes-requires-clause-room : goal.write_sizes-requires-clause-room
write_sizes-requires-clause-room c = room-left _ _ (length c.args.out_text.now) _ c.count_lines-sizes.result.bytes c.if-out_lengths-lines.false

pub returns : goal.returns
returns c =
    λ v R h.
    late-drawn R _ _ h c.args.board.now.near _ (c.count_lines-sizes.ensures v R h) _ _ c.lines_too_large.ensures c.if-lines_too_large.false _ (c.first_split.ensures v R)
    c.in_default.is c.if-out_lengths-lines.false _ _ _ c.write_sizes.ensures.0
    c.write_sizes.ensures.1 (c.write_lines.ensures v R h)
