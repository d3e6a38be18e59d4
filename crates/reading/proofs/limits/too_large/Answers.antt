-- `reading::limits::too_large` meets its contract: from its calls.
use Rattle.std.proofs.Common.{arith}
use Rattle.std.proofs.lemmas.Bool.Decides.{nat_tests}
use Rattle.representation.specs.Lent.{drawing_of}
use Rattle.reading.proofs.limits.LimitLaws.{over-listed, limits-apart}
use Rattle.reading.proofs.limits.too_large.Goals as goal

pub returns-then-any_over-2 : goal.returns-then-any_over-2
returns-then-any_over-2 c =
    let e = limits-apart (drawing_of c.args.drawing) c.requires in
    grind (arith, nat_tests, over-listed 512 c.args.drawing.lengths.now, over-listed 255 c.args.drawing.columns.now)

pub returns-else-any_over-2 : goal.returns-else-any_over-2
returns-else-any_over-2 c =
    let e = limits-apart (drawing_of c.args.drawing) c.requires in
    grind (arith, nat_tests, over-listed 512 c.args.drawing.lengths.now, over-listed 255 c.args.drawing.columns.now)
