use borrow.Author.Rules.{rules}
use Rattle.cm.proofs.draw.SizeLaws.{length-fits, lengths-next, sizes-written, columns-filled}
use Rattle.cm.proofs.draw.write_sizes.Goals as goal

pub overflow_cast-out_lengths : goal.overflow_cast-out_lengths
overflow_cast-out_lengths c = search (rules, length-fits)

pub loop-y-preserved : goal.loop-y-preserved
loop-y-preserved c = (search (rules, lengths-next), search rules)

pub returns : goal.returns
returns c =
    (search (rules, sizes-written), columns-filled _ _ _ _ c.requires.room.1 (c.fill.ensures.after (λ y e. search rules)))
