-- `rule_lines::rule::is_segment` meets its contract: from its three calls.
use Rattle.text.specs.Rule.{is_segment}
use Rattle.rule_lines.proofs.rule.is_segment.Goals as goal

pub returns : goal.returns
unfolding is_segment
returns c = cc
