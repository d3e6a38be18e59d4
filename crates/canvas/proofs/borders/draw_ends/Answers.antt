-- `canvas::borders::draw_ends` meets its contract: the part of each line between the columns is filled.
use borrow.Author.Rules.{rules}
use Rattle.canvas.proofs.borders.EndLaws.{ends-drawn}
use Rattle.canvas.proofs.borders.draw_ends.Goals as goal

pub returns : goal.returns
returns c =
    ends-drawn _ _ _ _ _ _ _ c.requires.room c.requires.inside c.rule_byte.ensures c.rule_byte-2.ensures
    (c.fill.ensures.after (λ y e. search rules)) (c.fill-2.ensures.after (λ y e. search rules))
