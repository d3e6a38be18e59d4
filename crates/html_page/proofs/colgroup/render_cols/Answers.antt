use Rattle.html_page.proofs.colgroup.ColgroupLaws.{cols-none, cols-next, cols-all}
use native.Mathlib.Omega.{arith}
use borrow.Author.Rules.{rules}
use Rattle.html_page.proofs.colgroup.render_cols.Goals as goal

pub loop-k-init : goal.loop-k-init
loop-k-init c = search (rules, cols-none)

pub loop-k-preserved : goal.loop-k-preserved
loop-k-preserved c = (
  search rules,
  omega (arith, c.loop-k.invariant.1, c.render_col-end.ensures.1),
  cols-next _ _ _ c.loop-k-test.true _ c.loop-k.invariant.2 (rw c.at-width.ensures at c.share_of.ensures) c.render_col-end.ensures.0,
)

pub returns : goal.returns
returns c = (search cols-all, search rules)
