use Rattle.writer.proofs.WritingLaws.{wrote_none}
use Rattle.page_listing.proofs.escape.ByteLaws.{line-next, line-all}
use mathlib.Core.List.{flat_map}
use borrow.Author.Rules.{rules}
use Rattle.page_listing.proofs.escape.escape_line.Goals as goal

pub loop-b-init : goal.loop-b-init
unfolding flat_map
loop-b-init c = search (rules, wrote_none)

pub loop-b-preserved : goal.loop-b-preserved
loop-b-preserved c = search (rules, line-next)

pub returns : goal.returns
returns c = (search line-all, search rules)
