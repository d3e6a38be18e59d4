-- The chain's fold, from the first column on.
use Prim.Native.Nat.{min}
use mathlib.Core.Path.{◌∙◌}
use native.Mathlib.Omega.{arith}
use borrow.Author.Rules.{rules}
use borrow.Author.Tests.{tests}
use Rattle.std.proofs.lemmas.Iterator.{YieldsList-from_slice}
use Rattle.std.proofs.lemmas.Iterator.Consumers.{fold_from_yields_List}
use Rattle.trace.specs.Skylines.{sky_of}
use Rattle.trace.proofs.skyline.SkyLaws.{sky-length, lowest-folded}
use Rattle.trace.proofs.skyline.Skyline.lowest.Goals as goal

pub returns : goal.returns
returns c =
    let sky = sky_of c.args.self.now in
    fold_from_yields_List _ min _ _ c.fold-lowest.ensures.ran (YieldsList-from_slice sky cc) (λ a x b q k. search (rules, tests))
    ∙ (rw c.levels-levels.ensures (lowest-folded sky (omega (arith, sky-length c.args.self.now, c.args.self.now.some))))
