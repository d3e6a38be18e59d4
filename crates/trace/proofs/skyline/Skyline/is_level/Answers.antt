-- The chain over the columns under the rectangle.
use Prim.Native.Nat.{◌-◌}
use mathlib.Core.Path.{◌∙◌}
use native.Mathlib.Omega.{arith}
use lib.Dec.{eqb}
use lib.ListN.{take, drop}
use borrow.Author.Rules.{rules}
use borrow.Author.Tests.{tests}
use Rattle.std.proofs.lemmas.Iterator.{YieldsList-from_slice}
use Rattle.std.proofs.lemmas.Iterator.Search.{all_from_yields_List}
use Rattle.trace.specs.Skylines.{sky_of}
use Rattle.trace.proofs.skyline.SkyLaws.{sky-length, level-part}
use Rattle.trace.proofs.skyline.Skyline.is_level.Goals as goal

pub returns : goal.returns
returns c =
    let sky = sky_of c.args.self.now in
    all_from_yields_List (λ b. eqb b c.args.level) _ _ _ c.all.ensures.ran (YieldsList-from_slice (take (c.args.right - c.args.left) (drop c.args.left sky)) cc) (λ x b q k. search (rules, tests))
    ∙ level-part sky c.args.left c.args.right c.args.level c.requires.0 (omega (arith, sky-length c.args.self.now, c.requires.1))
