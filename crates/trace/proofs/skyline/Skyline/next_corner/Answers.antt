-- The next corner at the level, or else the first at the lowest.
use borrow.Author.Rules.{rules}
use Rattle.trace.proofs.skyline.SkyLaws.{corner-at-level, corner-lowest}
use Rattle.trace.proofs.skyline.Skyline.next_corner.Goals as goal

pub returns-then-left-self : goal.returns-then-left-self
returns-then-left-self c = corner-at-level c.args.self.now _ _ _ c.requires.none_below c.requires.above_before c.first_at-left.ensures (search rules)

pub returns : goal.returns
returns c = corner-lowest c.args.self.now _ _ c.lowest-top.ensures c.first_at.ensures
