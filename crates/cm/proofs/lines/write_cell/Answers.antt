-- `cm::lines::write_cell` meets its contract: the cell's line between its borders is the definition's inner line.
use mathlib.Core.Path.{ap}
use Rattle.grid.specs.Values.{Rect}
use Rattle.cm.proofs.lines.InnerLaws.{cell-asked, inner-fits, inner-asked, inner-line, inner-few}
use Rattle.cm.proofs.lines.write_cell.Goals as goal

pub line-line-requires : goal.line-line-requires
line-line-requires c =
    let (v, B) = c.requires.boxed in
    cell-asked (v, B, c.requires.inner, c.args.board.now.near, c.requires.early) _ (ap (λ (r : Rect). r.top) c.at-rect.ensures)

pub write_inner-requires-clause-origin_bound : goal.write_inner-requires-clause-origin_bound
write_inner-requires-clause-origin_bound c =
    let (v, B) = c.requires.boxed in
    inner-asked (v, B, c.requires.inner, c.args.board.now.near, c.requires.early) _ (ap (λ (r : Rect). r.top) c.at-rect.ensures) _ c.line-line.ensures _ _
    (ap (λ (r : Rect). r.left) c.at-rect.ensures) (ap (λ (r : Rect). r.right) c.at-rect.ensures)

pub write_inner-requires-clause-left_bound : goal.write_inner-requires-clause-left_bound
write_inner-requires-clause-left_bound c =
    let (v, B) = c.requires.boxed in
    inner-fits (v, B, c.requires.inner, c.args.board.now.near, c.requires.early) _ (ap (λ (r : Rect). r.top) c.at-rect.ensures) _ c.line-line.ensures _ _
    (ap (λ (r : Rect). r.left) c.at-rect.ensures) (ap (λ (r : Rect). r.right) c.at-rect.ensures)

pub returns-clause-wrote : goal.returns-clause-wrote
returns-clause-wrote c =
    let (v, B) = c.requires.boxed in
    inner-line (v, B, c.requires.inner, c.args.board.now.near, c.requires.early) _ (ap (λ (r : Rect). r.top) c.at-rect.ensures) _ c.line-line.ensures _ _
    (ap (λ (r : Rect). r.left) c.at-rect.ensures) (ap (λ (r : Rect). r.right) c.at-rect.ensures) c.write_inner.ensures

pub returns-clause-short : goal.returns-clause-short
returns-clause-short c =
    let (v, B) = c.requires.boxed in
    inner-few (v, B, c.requires.inner, c.args.board.now.near, c.requires.early) _ (ap (λ (r : Rect). r.top) c.at-rect.ensures) _ c.line-line.ensures _ _
    (ap (λ (r : Rect). r.left) c.at-rect.ensures) (ap (λ (r : Rect). r.right) c.at-rect.ensures) c.write_inner.ensures
