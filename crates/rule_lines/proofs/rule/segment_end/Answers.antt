-- `rule_lines::rule::segment_end` meets its contract: the place of the first `+`, or the length.
use mathlib.Core.Path.{◌≡◌, ◌∙◌, ap}
use borrow.Author.Rules.{rules}
use borrow.Author.Tests.{tests}
use lib.Dec.{eqb}
use lib.ListN.{length}
use Rattle.std.specs.Prelude.{Option, position, unwrap_or}
use Rattle.std.proofs.lemmas.Iterator.{YieldsList-from_slice}
use Rattle.std.proofs.lemmas.Iterator.Search.{position_from_yields_List}
use Rattle.text.specs.Characters.{plus}
use Rattle.text.proofs.RuleLaws.{plus-found}
use Rattle.rule_lines.proofs.rule.segment_end.Goals as goal

pub returns : goal.returns
returns c =
    let found : c.position.result ≡ position (λ b. eqb b plus) c.args.rest.now =
    position_from_yields_List (λ b. eqb b plus) _ _ c.position.result c.position.ensures.ran (YieldsList-from_slice c.args.rest.now cc) (λ x b q k. search (rules, tests))
    in
    c.unwrap_or.ensures ∙ ap (λ o. unwrap_or o (length c.args.rest.now)) found ∙ plus-found c.args.rest.now
