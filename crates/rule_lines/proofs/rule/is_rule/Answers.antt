use borrow.Author.Rules.{rules}
use native.Mathlib.Nat.{le_of_lt}
use native.Mathlib.Omega.{arith}
use lib.ListN.{length-drop}
use lib.Seq.{length-take-le}
use Rattle.text.proofs.RuleLaws.{no-plus-no-rule, rule-starts, rule-ends, rule-unclosed, rule-breaks, rule-goes-on}
use Rattle.rule_lines.proofs.rule.is_rule.Goals as goal

pub returns-in_default : goal.returns-in_default
returns-in_default c = no-plus-no-rule c.args.fill c.args.text.now c.in_default.ensures.cases

pub loop-rest-init : goal.loop-rest-init
loop-rest-init c =
    let told = c.in-Some.ensures.cases in (omega (arith, told.2), rule-starts c.args.fill c.args.text.now told.0 c.in-Some.rest.now told.1)

pub slice_bounds-is_segment-end : goal.slice_bounds-is_segment-end
slice_bounds-is_segment-end c = search (rules, length-take-le, le_of_lt)

pub returns-then-rest-end : goal.returns-then-rest-end
returns-then-rest-end c = search (rules, rule-unclosed)

pub returns-then-not-is_segment : goal.returns-then-not-is_segment
returns-then-not-is_segment c = search (rules, rule-breaks)

pub loop-rest-preserved : goal.loop-rest-preserved
loop-rest-preserved c = search (rules, rule-goes-on)

pub returns : goal.returns
returns c = search (rules, rule-ends)
