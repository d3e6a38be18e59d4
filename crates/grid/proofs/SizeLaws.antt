-- How long a layout's arrays are.
use Prim.Native.Nat.{ℕ, ◌-◌, ◌*◌}
use mathlib.Core.Path.{◌≡◌, refl, ap, ◌∙◌}
use mathlib.Core.Bool.{◌||◌}
use mathlib.Core.List.{List, map}
use lib.Dec.{ltb}
use lib.ListN.{length, length-map}
use Rattle.seq.specs.Lists.{sum}
use Rattle.seq.proofs.FlatMaps.{flat_map-map, length-flat_map, length-flat_map-sum}
use Rattle.seq.proofs.Ranges.{length-range}
use Rattle.grid.specs.Values.{Line, Rect, Cell}
use Rattle.grid.specs.Slots.{Grid, trimmed_at}
use Rattle.grid.specs.Layout.{between, column_lines, row_lines, columns_read, rows_read, inner_lines, inner_count, content_at, cell_read, layout_of}
use Rattle.grid.specs.Flat.{column_numbers}
use Rattle.grid.specs.LayoutCall.{LayoutArrays, contents, row_numbers, cell_numbers, range_numbers, layout_arrays, layout_sizes, layout_short}
use Rattle.grid.proofs.LayoutLaws.{length-between}

module _ (lines : List Line) (g : Grid) (rs : List Rect) where
  pub columns-count : length (columns_read lines g rs) ≡ length (column_lines g rs) - 1
  unfolding columns_read
  columns-count = length-map (between (column_lines g rs)) _ ∙ length-between (column_lines g rs)

  pub rows-count : length (rows_read g rs) ≡ length (row_lines g rs) - 1
  unfolding rows_read
  rows-count = length-map (between (row_lines g rs)) _ ∙ length-between (row_lines g rs)

  inner-length : (r : Rect) → length (cell_read g rs r).content ≡ r.bottom - r.top - 1
  unfolding cell_read
  inner-length r = length-map (inner_lines r) (content_at g r) ∙ length-range _ _

  ranges-count : length (contents (layout_of lines g rs)) ≡ inner_count rs
  unfolding layout_of
  ranges-count =
      ap length (flat_map-map (λ (c : Cell). c.content) (cell_read g rs) rs) ∙ length-flat_map-sum (λ r. (cell_read g rs r).content) rs
      ∙ ap (λ (f : Rect → ℕ). sum (map f rs)) (λ i r. inner-length r i)

  pub sizes-agree : layout_sizes lines (layout_of lines g rs) ≡ record {
    width = length (trimmed_at lines 0);
    columns = length (column_lines g rs) - 1;
    rows = length (row_lines g rs) - 1;
    cells = length rs;
    ranges = inner_count rs;
  }
  unfolding layout_sizes layout_of
  sizes-agree = rw (columns-count, rows-count, length-map rs (cell_read g rs), ranges-count)

  pub short-agrees : (out : LayoutArrays) → layout_short out (layout_arrays (layout_of lines g rs))
      ≡ (ltb (length out.columns) (2 * (length (column_lines g rs) - 1)) || ltb (length out.rows) (3 * (length (row_lines g rs) - 1))
      || ltb (length out.cells) (5 * length rs) || ltb (length out.ranges) (2 * inner_count rs))
  unfolding layout_short layout_arrays layout_of
  short-agrees out =
      rw (
        length-flat_map 2 column_numbers (columns_read lines g rs) (λ c. refl),
        columns-count,
        length-flat_map 3 row_numbers (rows_read g rs) (λ r. refl),
        rows-count,
        length-flat_map 5 cell_numbers (map (cell_read g rs) rs) (λ c. refl),
        length-map rs (cell_read g rs),
        length-flat_map 2 range_numbers (contents (layout_of lines g rs)) (λ r. refl),
        ranges-count,
      )
