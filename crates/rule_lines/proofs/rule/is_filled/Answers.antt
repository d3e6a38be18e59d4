-- `rule_lines::rule::is_filled` meets its contract: some bytes, and all of them the fill byte.
use borrow.Author.Rules.{rules}
use borrow.Author.Tests.{tests}
use lib.Dec.{eqb}
use Rattle.std.proofs.lemmas.Iterator.{YieldsList-from_slice}
use Rattle.std.proofs.lemmas.Iterator.Search.{all_from_yields_List}
use Rattle.text.proofs.RuleLaws.{fills-none, fills-all}
use Rattle.rule_lines.proofs.rule.is_filled.Goals as goal

pub returns-then-not-is_empty : goal.returns-then-not-is_empty
returns-then-not-is_empty c =
    fills-all c.args.fill c.args.segment.now c.is_empty.result c.is_empty.ensures c.if-not-is_empty.true c.all.result
    (all_from_yields_List (λ b. eqb b c.args.fill) _ _ c.all.result c.all.ensures.ran (YieldsList-from_slice c.args.segment.now cc) (λ x b q k. search (rules, tests)))

pub returns-else-not-is_empty : goal.returns-else-not-is_empty
returns-else-not-is_empty c = fills-none c.args.fill c.args.segment.now c.is_empty.result c.is_empty.ensures c.if-not-is_empty.false
