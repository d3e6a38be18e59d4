use native.Mathlib.Omega.{arith}
use Rattle.sizes.proofs.fit.TurnLaws.{none-turned, no-lack, some-lack}
use borrow.Author.Rules.{rules}
use Rattle.sizes.proofs.fit.add_lacks.Goals as goal
use Rattle.sizes.proofs.fit.add_lacks.Goals.{else-have-need, then-have-need}

pub loop-k-init : goal.loop-k-init
loop-k-init c = search (rules, none-turned)

pub loop-k-preserved : goal.loop-k-preserved
loop-k-preserved c =
    elim c.if-have-need.branch [ then-have-need w ↦ some-lack _ _ _ _ _ _ c.loop-k.invariant c.loop-k-test.true c.total.ensures (c.type_inv.needs _) (search rules) | else-have-need w ↦ no-lack _ _ _ _ _ _ c.loop-k.invariant c.loop-k-test.true c.total.ensures (search rules) (search rules) ]
