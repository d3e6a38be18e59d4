use native.Mathlib.Omega.{arith}
use Rattle.sizes.proofs.fit.TurnLaws.{none-turned, single-raised, none-raised}
use borrow.Author.Rules.{rules}
use Rattle.sizes.proofs.fit.raise_singles.Goals as goal
use Rattle.sizes.proofs.fit.raise_singles.Goals.{else-cells-k-eq1, then-cells-k-eq1}

pub loop-k-init : goal.loop-k-init
loop-k-init c = search (rules, none-turned)

pub loop-k-preserved : goal.loop-k-preserved
loop-k-preserved c =
    elim c.if-cells-k-eq1.branch [ then-cells-k-eq1 w ↦ single-raised _ _ _ _ _ _ c.loop-k.invariant (search rules) (c.type_inv.needs _) w.max.ensures (search rules) | else-cells-k-eq1 w ↦ search none-raised ]
