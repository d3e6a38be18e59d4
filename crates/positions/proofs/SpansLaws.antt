-- The positions of a traced drawing's rows and cells, and what finding them asks.
use Prim.Native.Nat.{ℕ, ◌*◌, ◌-◌, ◌<◌}
use mathlib.Core.Path.{◌≡◌, refl, ap, ◌∙◌}
use mathlib.Core.Bool.{◌||◌}
use mathlib.Core.List.{List, [], Memᴰ}
use native.Mathlib.Omega.{arith}
use lib.ListN.{length, get_or, length-map}
use Rattle.seq.proofs.FlatMaps.{flat_map-same, flat_map-map, length-flat_map}
use Rattle.grid.specs.Values.{Rect, Row, Cell}
use Rattle.grid.specs.Slots.{Grid, grid_of}
use Rattle.grid.specs.Layout.{Between, between, row_lines, section_at, rows_read, cell_read, layout_of}
use Rattle.grid.specs.Flat.{shorter}
use Rattle.grid.specs.TableCall.{no_cell}
use Rattle.grid.proofs.LayoutLaws.{length-between}
use Rattle.grid.proofs.SizeLaws.{rows-count}
use Rattle.representation.specs.Arrays.{rect_in}
use Rattle.representation.specs.Edges.{row_lines_below}
use Rattle.representation.specs.LayoutEntries.{Inside}
use Rattle.representation.proofs.RectsLaws.{length-rects}
use Rattle.representation.proofs.HeldLaws.{rect-holds}
use Rattle.reading.specs.Call.{SheetArrays, lines_in, rects_in, TracedSheet}
use Rattle.reading.specs.declared.Reading.{Reading}
use Rattle.reading.proofs.SheetLaws.{traced-height, traced-width, traced-laid, traced-cover}
use Rattle.cell.proofs.CallLaws.{cell-here}
use Rattle.sourcepos.specs.Positions.{Placed, row_position, cell_position}
use Rattle.sourcepos.specs.PositionsCall.{four_numbers, PositionArrays, position_arrays}
use Rattle.positions.specs.Spans.{placed_lines, lines_between, row_spans, rect_span, rect_spans}
use Rattle.positions.specs.Parts.{spans_short}
use Rattle.positions.proofs.CellLaws.{cell_position-span}

module _ {a : SheetArrays} {o : Reading} (t : TracedSheet a o) (numbers table_bytes : List ℕ) where
  abbrev g : Grid
  g = grid_of (lines_in a)

  abbrev rs : List Rect
  rs = rects_in a o.cells

  abbrev rows : List ℕ
  rows = row_lines_below (length a.lengths) rs

  abbrev drawn : Placed
  drawn = placed_lines numbers table_bytes (lines_in a)

  rows_same : row_lines g rs ≡ rows
  unfolding row_lines
  rows_same = rw (traced-height a o t)

  pub row_spans-told : (position_arrays drawn (layout_of (lines_in a) g rs)).rows ≡ row_spans drawn rows
  unfolding position_arrays layout_of rows_read row_position
  row_spans-told =
      flat_map-map (λ (r : Row). four_numbers (row_position drawn r)) (λ (b : Between). record { section = section_at g b.from; top = b.from; bottom = b.to }) (between (row_lines g rs))
      ∙ rw rows_same

  rect_span-told : {r : Rect} → Memᴰ r rs → cell_position drawn (layout_of (lines_in a) g rs) (cell_read g rs r) ≡ rect_span drawn a.offsets r
  rect_span-told m = cell_position-span drawn g rs a.glyphs a.offsets (traced-cover a o t) (traced-laid a o t) m

  pub rect_spans-told : (position_arrays drawn (layout_of (lines_in a) g rs)).cells ≡ rect_spans drawn a.offsets rs
  unfolding position_arrays layout_of
  rect_spans-told =
      flat_map-map (λ (c : Cell). four_numbers (cell_position drawn (layout_of (lines_in a) g rs) c)) (cell_read g rs) rs
      ∙ flat_map-same (λ r. four_numbers (cell_position drawn (layout_of (lines_in a) g rs) (cell_read g rs r))) (λ r. four_numbers (rect_span drawn a.offsets r)) rs (λ r m. ap four_numbers (rect_span-told m))

  pub spans_short-told : (out : PositionArrays)
      → shorter out.rows (position_arrays drawn (layout_of (lines_in a) g rs)).rows || shorter out.cells (position_arrays drawn (layout_of (lines_in a) g rs)).cells
      ≡ spans_short (length rows) (length rs) out
  spans_short-told out =
      let rows_long : length (row_spans drawn rows) ≡ 4 * (length rows - 1) =
      length-flat_map 4 (λ (b : Between). four_numbers (lines_between drawn b.from b.to)) (between rows) (λ b. refl) ∙ rw (length-between rows) in
      let cells_long : length (rect_spans drawn a.offsets rs) ≡ 4 * length rs = length-flat_map 4 (λ r. four_numbers (rect_span drawn a.offsets r)) rs (λ r. refl) in
      rw (row_spans-told, rect_spans-told, rows_long, cells_long)

  pub layout_of-rows : length (layout_of (lines_in a) g rs).rows ≡ length rows - 1
  unfolding layout_of
  layout_of-rows = rows-count (lines_in a) g rs ∙ rw rows_same

  pub layout_of-cells : length (layout_of (lines_in a) g rs).cells ≡ o.cells
  unfolding layout_of
  layout_of-cells = length-map rs (cell_read g rs) ∙ length-rects o.cells a.rects

  pub rect_span-at : (k : ℕ) → k < o.cells → cell_position drawn (layout_of (lines_in a) g rs) (get_or (layout_of (lines_in a) g rs).cells k no_cell) ≡ rect_span drawn a.offsets (rect_in a.rects k)
  rect_span-at k h =
      rw (cell-here a o t [] k h)
      (rect-holds (λ r. cell_position drawn (layout_of (lines_in a) g rs) (cell_read g rs r) ≡ rect_span drawn a.offsets r) a.rects o.cells k h (λ r m. rect_span-told m))

-- its rectangles lie in the lines that are numbered
pub placed-inside : {a : SheetArrays} {o : Reading} (t : TracedSheet a o) (numbers : List ℕ) → length numbers ≡ length a.lengths
    → (r : Rect) → Memᴰ r (rects_in a o.cells) → Inside (length numbers) 128 r
placed-inside {a} {o} t numbers agree r m =
    let i = (traced-laid a o t).inside r m in
    record {
      down = i.down;
      across = i.across;
      tall = omega (arith, i.tall, traced-height a o t, agree);
      wide = omega (arith, i.wide, traced-width a o t, t.roomy.width_fits);
    }
