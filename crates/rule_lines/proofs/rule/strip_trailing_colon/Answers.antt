-- `rule_lines::rule::strip_trailing_colon` meets its contract: by the last byte.
use Rattle.text.proofs.RuleLaws.{trailing-colon-stripped}
use Rattle.rule_lines.proofs.rule.strip_trailing_colon.Goals as goal

pub returns : goal.returns
returns c = trailing-colon-stripped c.args.segment c.strip_suffix.result c.strip_suffix.ensures.cases c.unwrap_or.result c.unwrap_or.ensures
