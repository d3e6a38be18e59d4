use borrow.Author.Rules.{rules}
use Rattle.input_lines.proofs.SplitLaws.{feed-start, feed-found, feed-later, feed-none}
use Rattle.input_lines.proofs.find_feed.Goals as goal

pub loop-i-init : goal.loop-i-init
loop-i-init c = search (rules, feed-start)

pub returns-then-input-i-eq10 : goal.returns-then-input-i-eq10
returns-then-input-i-eq10 c = search feed-found

pub loop-i-preserved : goal.loop-i-preserved
loop-i-preserved c = search (rules, feed-later)

pub returns : goal.returns
returns c = search (rules, feed-none)
