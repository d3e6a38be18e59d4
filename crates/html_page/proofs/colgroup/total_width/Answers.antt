use native.Mathlib.Omega.{arith}
use Prim.Native.Nat.{◌+◌, ◌*◌}
use Rattle.html_page.proofs.colgroup.ColgroupLaws.{total-none, total-next, total-all}
use borrow.Author.Rules.{rules}
use Rattle.html_page.proofs.colgroup.total_width.Goals as goal

pub loop-k-init : goal.loop-k-init
loop-k-init c = search (rules, total-none)

pub loop-k-preserved : goal.loop-k-preserved
loop-k-preserved c = (omega (arith, c.loop-k.invariant.0, (c.type_inv.cols (2 * c.loop-k.k + 1)).fits), rw c.at.ensures (total-next _ _ _ c.loop-k-test.true _ c.loop-k.invariant.1))

pub returns : goal.returns
returns c = search total-all
