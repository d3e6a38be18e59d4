-- The parts and the column and row lines that were found, of a traced drawing: what the layout and table calls write from.
use Prim.Native.Nat.{◌-◌, ◌≤◌, ◌<◌}
use mathlib.Core.Path.{◌≡◌, ap}
use mathlib.Core.List.{Memᴰ}
use native.Mathlib.Omega.{arith}
use lib.ListN.{length}
use Rattle.seq.specs.Lists.{or_default}
use Rattle.grid.specs.Values.{Rect}
use Rattle.grid.specs.Slots.{grid_of}
use Rattle.grid.specs.Layout.{first_of, last_but_one, head_end, foot_start, column_lines, row_lines}
use Rattle.slots.specs.Filling.{separator_lines}
use Rattle.representation.specs.Edges.{Collected, row_lines_below, column_lines_below}
use Rattle.representation.specs.LayoutEntries.{lines_held, numbering_of, Numbered}
use Rattle.representation.specs.declared.Bounds.{Bounds}
use Rattle.representation.specs.declared.Parts.{Parts}
use Rattle.representation.proofs.TracedLaws.{tops-held, lefts-held, grid_answer-numbered}
use Rattle.reading.specs.Call.{SheetArrays, lines_in, rects_in, TracedSheet}
use Rattle.reading.specs.declared.Reading.{Reading}
use Rattle.reading.proofs.SheetLaws.{traced-accepted, traced-holds, traced_lines, traced-height, traced-width, traced-separators, traced-laid}

-- the parts that were found
abbrev pub PartsFound : SheetArrays → Reading → Parts → Type 0
PartsFound a o p =
    (p.head ≡ or_default 0 (first_of (separator_lines o.separators)))
    × (p.foot ≡ or_default 128 (last_but_one (length a.lengths - 1) (separator_lines o.separators)))

module _ {a : SheetArrays} {o : Reading} (t : TracedSheet a o) where
  module _ (p : Parts) (parts : PartsFound a o p) where
    pub parts-head : p.head ≡ or_default 0 (head_end (grid_of (lines_in a)))
    parts-head = rw (← traced-separators a o t) parts.0

    pub parts-foot : p.foot ≡ or_default 128 (foot_start (grid_of (lines_in a)))
    parts-foot = rw (← traced-separators a o t, traced-height a o t) parts.1

    pub parts-head-line : p.head < length a.lengths
    parts-head-line = omega (arith, parts-head, traced-height a o t, (traced-laid a o t).aligned)

  -- the lines that were collected
  module _ {tops lefts : Bounds} (c : Collected (row_lines_below (length a.lengths) (rects_in a o.cells)) (length a.lengths) tops)
      (d : Collected (column_lines_below o.width.0 (rects_in a o.cells)) o.width.0 lefts) where
    down : Collected (row_lines_below (length (lines_in a)) (rects_in a o.cells)) (length (lines_in a)) tops
    down = rw (traced_lines a o t) c

    across : Collected (column_lines_below (grid_of (lines_in a)).width (rects_in a o.cells)) (grid_of (lines_in a)).width lefts
    across = rw (traced-width a o t) d

    low : length (lines_in a) ≤ 128
    low = rw (traced_lines a o t) t.sheet.few_lines

    narrow : (grid_of (lines_in a)).width ≤ 128
    narrow = rw (traced-width a o t) t.roomy.width_fits

    pub tops-found : lines_held tops ≡ row_lines (grid_of (lines_in a)) (rects_in a o.cells)
    tops-found = tops-held _ _ _ _ (traced-accepted a o t) (traced-holds a o t) low narrow _ _ down across

    pub lefts-found : lines_held lefts ≡ column_lines (grid_of (lines_in a)) (rects_in a o.cells)
    lefts-found = lefts-held _ _ _ _ (traced-accepted a o t) (traced-holds a o t) low narrow _ _ down across

    pub tops-found-count : tops.count - 1 ≡ length (row_lines (grid_of (lines_in a)) (rects_in a o.cells)) - 1
    unfolding row_lines grid_of
    tops-found-count = ap (λ n. n - 1) down.counted

    pub lefts-found-count : lefts.count - 1 ≡ length (column_lines (grid_of (lines_in a)) (rects_in a o.cells)) - 1
    unfolding column_lines
    lefts-found-count = ap (λ n. n - 1) across.counted

    pub rects-found-numbered : (r : Rect) → Memᴰ r (rects_in a o.cells) → Numbered (numbering_of tops) (numbering_of lefts) r
    rects-found-numbered = grid_answer-numbered _ _ _ _ (traced-accepted a o t) (traced-holds a o t) low narrow _ _ down across
