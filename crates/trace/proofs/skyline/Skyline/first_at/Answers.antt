-- The chain's place, from `from` on.
use mathlib.Core.Path.{sym, ap, ◌∙◌}
use native.Mathlib.Omega.{arith}
use lib.Dec.{eqb}
use lib.ListN.{length, take, drop}
use Prim.Native.Nat.{ℕ, ◌-◌}
use mathlib.Core.List.{List}
use Rattle.std.proofs.lemmas.List.{take_rest}
use borrow.Author.Rules.{rules}
use borrow.Author.Tests.{tests}
use Rattle.std.proofs.lemmas.Iterator.{YieldsList-from_slice}
use Rattle.std.proofs.lemmas.Iterator.Search.{position_from_yields_List}
use Rattle.trace.specs.Skylines.{sky_of}
use Rattle.trace.proofs.skyline.SkyLaws.{sky-length, first-here, first-nowhere}
use Rattle.trace.proofs.skyline.Skyline.first_at.Goals as goal

pub returns-in-Some : goal.returns-in-Some
returns-in-Some c =
    let sky = sky_of c.args.self.now in
    let told = position_from_yields_List (λ b. eqb b c.args.level) _ _ _ c.position.ensures.ran (YieldsList-from_slice (take (length sky - c.args.from) (drop c.args.from sky)) (c.iter.ensures.rest ∙ ap (λ (l : List ℕ). take (length l - c.args.from) (drop c.args.from l)) c.levels.ensures)) (λ x b q k. search (rules, tests)) in
    first-here sky c.args.from c.args.level (omega (arith, sky-length c.args.self.now)) c.in-Some.n (sym (rw take_rest at told) ∙ c.in-Some.is)

pub returns-in-None : goal.returns-in-None
returns-in-None c =
    let sky = sky_of c.args.self.now in
    let told = position_from_yields_List (λ b. eqb b c.args.level) _ _ _ c.position.ensures.ran (YieldsList-from_slice (take (length sky - c.args.from) (drop c.args.from sky)) (c.iter.ensures.rest ∙ ap (λ (l : List ℕ). take (length l - c.args.from) (drop c.args.from l)) c.levels.ensures)) (λ x b q k. search (rules, tests)) in
    first-nowhere sky c.args.from c.args.level (omega (arith, sky-length c.args.self.now)) _ (sky-length c.args.self.now) (sym (rw take_rest at told) ∙ c.in-None.is)
