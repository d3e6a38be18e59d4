-- Working space of the lengths named is never short: `starts-enough`, `reading-enough`, `redraw-enough`, `between-enough`.
use Prim.Native.Nat.{ℕ, ◌*◌, ◌≤◌}
use mathlib.Core.Path.{◌≡◌}
use mathlib.Core.Bool.{false}
use borrow.Author.Tests.{le-ltb}
use Rattle.seq.proofs.Tests.{or-none}
use Rattle.grid.specs.Limits.{max_lines, max_bytes, max_columns, max_rows, max_cells, max_table_lines}
use Rattle.grid.specs.LayoutCall.{slot_space, rect_space, LayoutSpace, space_short}
use Rattle.grid.specs.TableCall.{TableSpace, starts_short, table_space_short}
use Rattle.drawing.specs.RedrawCall.{RedrawSpace, redraw_space_short}
use Rattle.drawing.specs.SheetCall.{SheetSpace, sheet_space_short}
use Rattle.drawing.proofs.CallLaws.{redraw-space-enough}
use Rattle.replies.specs.Room.{reading_space, ReadingLent, RedrawLent, BetweenLent}

-- of the calls that read a drawing; cell and positions are lent no counts
pub starts-enough : (starts : ℕ) → reading_space.starts ≤ starts → starts_short starts ≡ false
unfolding starts_short
starts-enough starts h = le-ltb starts max_lines h

pub reading-enough : (w : LayoutSpace) (s : TableSpace) → ReadingLent w s → (space_short w ≡ false) × (table_space_short s ≡ false)
unfolding space_short table_space_short
reading-enough w s lent =
    let glyphs = le-ltb w.glyphs slot_space lent.glyphs in
    let offsets = le-ltb w.offsets slot_space lent.offsets in
    let down = le-ltb w.down slot_space lent.down in
    let right = le-ltb w.right slot_space lent.right in
    let rects = le-ltb w.rects rect_space lent.rects in (
      or-none (or-none (or-none (or-none glyphs offsets) down) right) rects,
      or-none (starts-enough s.starts lent.starts) (le-ltb s.counts max_cells lent.counts),
    )

-- of the redraw call
pub redraw-enough : (w : RedrawSpace) → RedrawLent w → redraw_space_short w ≡ false
redraw-enough w lent =
    redraw-space-enough w
    (record {
      starts = lent.starts;
      ends = lent.ends;
      firsts = lent.firsts;
      heights = lent.heights;
      wides = lent.wides;
      rects = lent.rects;
      canvas = lent.canvas;
    })

-- between the two steps of the call from a drawing to its redrawing
pub between-enough : (h : SheetSpace) → BetweenLent h → sheet_space_short h ≡ false
unfolding sheet_space_short
between-enough h lent =
    let columns = le-ltb h.columns (2 * max_columns) lent.columns in
    let sections = le-ltb h.sections max_rows lent.sections in
    let cells = le-ltb h.cells (5 * max_cells) lent.cells in
    let lengths = le-ltb h.lengths max_table_lines lent.lengths in
    or-none (or-none (or-none (or-none columns sections) cells) lengths) (le-ltb h.text max_bytes lent.text)
