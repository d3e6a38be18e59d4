-- `cm::draw::lines_too_large` meets its contract.
use mathlib.Core.Path.{refl, sym, ◌∙◌}
use lib.ListN.{take}
use Rattle.seq.proofs.Tests.{or_left}
use Rattle.reading.specs.Agreement.{any_over}
use Rattle.reading.proofs.limits.LimitLaws.{over-listed}
use Rattle.cm.proofs.draw.lines_too_large.Goals as goal

pub returns-then-any_over : goal.returns-then-any_over
unfolding any_over
returns-then-any_over c = rw c.if-any_over.true (sym (or_left _ (sym (over-listed 512 (take c.args.height c.args.sizes.lengths)) ∙ sym c.any_over.ensures ∙ c.if-any_over.true)))

pub returns-else-any_over : goal.returns-else-any_over
unfolding any_over
returns-else-any_over c = rw (sym (over-listed 512 (take c.args.height c.args.sizes.lengths)) ∙ sym c.any_over.ensures ∙ c.if-any_over.false) refl
