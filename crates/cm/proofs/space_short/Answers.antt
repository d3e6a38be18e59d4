-- `cm::space_short` meets its contract.
use mathlib.Core.Path.{refl}
use Rattle.drawing.specs.RedrawCall.{redraw_space_short}
use Rattle.cm.proofs.space_short.Goals as goal

pub returns : goal.returns
unfolding redraw_space_short
returns c = refl
