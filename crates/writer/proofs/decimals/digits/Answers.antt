use Rattle.writer.proofs.decimals.DigitLaws.{set-kept, digits-start, digits-closed, digits-again, digits-none}
use borrow.Author.Rules.{rules}
use Rattle.writer.proofs.decimals.digits.Goals as goal

pub loop-i-init : goal.loop-i-init
loop-i-init c = search (rules, digits-start)

pub shape_of-digits-then-left-lt10 : goal.shape_of-digits-then-left-lt10
shape_of-digits-then-left-lt10 c = search set-kept

pub returns-then-left-lt10 : goal.returns-then-left-lt10
returns-then-left-lt10 c =
    digits-closed c.loop-i.digits c.loop-i.left c.loop-i.i c.loop-i.invariant.2 (search rules) c.loop-i.invariant.0 c.loop-i.invariant.3 (search rules)

pub loop-i-preserved : goal.loop-i-preserved
loop-i-preserved c =
    let more = digits-again c.loop-i.digits c.loop-i.left c.loop-i.i c.loop-i.invariant.2 (search rules) c.loop-i.invariant.0 c.loop-i.invariant.3 (search rules) in
    (more.0, c.loop-i.invariant.1, more.1, more.2)

pub returns : goal.returns
returns c = search (rules, digits-none)
