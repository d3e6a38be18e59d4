-- `fragments::cell_text` meets its contract: the answer's two ends give the text and its place.
use mathlib.Core.Path.{refl}
use Rattle.fragments.proofs.TextLaws.{part-forward, part-inside, part_cut, part_placed, refused-empty, refused-placed}
use Rattle.fragments.proofs.cell_text.Goals as goal

pub slice_bounds-result-count : goal.slice_bounds-result-count
slice_bounds-result-count c = part-forward _ _ _ _ _ _ c.in-Ok.ensures

pub slice_bounds-result-start : goal.slice_bounds-result-start
slice_bounds-result-start c = part-forward _ _ _ _ _ _ c.in-Ok.ensures

pub slice_bounds-result-end : goal.slice_bounds-result-end
slice_bounds-result-end c = part-inside _ _ _ _ _ _ c.in-Ok.ensures

pub returns-in-Ok : goal.returns-in-Ok
returns-in-Ok c = (refl, part_placed _ _ _ _ _ _ c.in-Ok.ensures _, part_cut _ _ _ _ _ _ c.in-Ok.ensures)

pub returns-in-Err : goal.returns-in-Err
returns-in-Err c = (refl, refused-placed _ _ _ _ _ _ _ c.in-Err.ensures _, refused-empty _ _ _ _ _ _ _ c.in-Err.ensures)
