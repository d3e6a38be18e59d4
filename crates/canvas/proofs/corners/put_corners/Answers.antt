-- `canvas::corners::put_corners` meets its contract: four writes.
use Rattle.canvas.proofs.corners.CornerLaws.{corners-put}
use borrow.Author.Rules.{rules}
use Rattle.canvas.proofs.corners.put_corners.Goals as goal

pub returns : goal.returns
returns c = search (rules, corners-put)
