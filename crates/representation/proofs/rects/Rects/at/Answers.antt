-- `representation::rects::Rects::at` meets its contract: its numbers are numbers of the array.
use Rattle.representation.proofs.RectsHeld.{rect_low}
use Rattle.representation.proofs.rects.Rects.at.Goals as goal

pub returns-clause-low : goal.returns-clause-low
returns-clause-low c = rect_low c.args.self.now c.args.k c.requires _ c.at.ensures
