-- `layout_listing::print::alignment_of` meets its contract.
use mathlib.Core.Path.{◌∙◌}
use Rattle.layout_listing.proofs.print.LineLaws.{decoded}
use Rattle.layout_listing.proofs.print.alignment_of.Goals as goal

pub returns : goal.returns
returns c = c.unwrap_or.ensures ∙ decoded c.args.code _ c.try_from.ensures
