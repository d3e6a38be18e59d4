-- How large a layout that is read can be: it fits 127 columns and rows, 1,024 cells and 16,384 ranges.
use Prim.Native.Nat.{◌*◌, ◌-◌, ◌≤◌}
use mathlib.Core.Path.{◌≡◌}
use mathlib.Core.Bool.{false}
use mathlib.Core.List.{List}
use native.Mathlib.Omega.{arith}
use lib.ListN.{length, length-map}
use borrow.Author.Tests.{le-ltb}
use Rattle.grid.specs.Answer.{accept}
use Rattle.grid.specs.Values.{Line, Rect, Layout}
use Rattle.grid.specs.Slots.{grid_of}
use Rattle.grid.specs.Layout.{column_lines, row_lines, inner_count, cell_read, layout_of}
use Rattle.grid.specs.Read.{read_layout}
use Rattle.grid.specs.LayoutCall.{LayoutArrays, layout_arrays, layout_short}
use Rattle.grid.proofs.LayoutLaws.{column_lines-few, row_lines-few}
use Rattle.grid.proofs.SizeLaws.{columns-count, rows-count, short-agrees}
use Rattle.grid.proofs.ReadLaws.{Passed, read_rects-passed, height-of, read-few, read-limited, read-narrow, layout-read}
use Rattle.grid.proofs.CellTexts.{all_lines}

-- A layout that is read

pub record LayoutRead (lines : List Line) (l : Layout) : Type 0 where
  pub rects : List Rect
  pub checks : Passed lines rects
  pub made : l ≡ layout_of lines (grid_of lines) rects

pub layout_read-made : (lines : List Line) (l : Layout) → read_layout lines ≡ accept l → LayoutRead lines l
layout_read-made lines l e =
    let (rs, read, made) = layout-read lines l e in
    record { rects = rs; checks = read_rects-passed lines rs read; made = made }

pub record LayoutSmall (l : Layout) : Type 0 where
  pub columns : length l.columns ≤ 127
  pub rows : length l.rows ≤ 127
  pub cells : length l.cells ≤ 1024

pub layout-small : (lines : List Line) (l : Layout) → LayoutRead lines l → LayoutSmall l
unfolding layout_of
layout-small lines l h =
    let g = grid_of lines in
    let rs = h.rects in
    rw h.made
    (
    record {
      columns = omega (arith, columns-count lines g rs, column_lines-few g rs, read-narrow h.checks);
      rows = omega (arith, rows-count lines g rs, row_lines-few g rs, height-of lines, (read-limited h.checks).few_lines);
      cells = omega (arith, length-map rs (cell_read g rs), read-few h.checks);
    }
    )

-- room for every layout
pub record Rooms (out : LayoutArrays) : Type 0 where
  pub columns : length out.columns ≡ 254
  pub rows : length out.rows ≡ 381
  pub cells : length out.cells ≡ 5120
  pub ranges : length out.ranges ≡ 32768

pub layout-fits : (lines : List Line) (l : Layout) (out : LayoutArrays) → LayoutRead lines l → Rooms out → layout_short out (layout_arrays l) ≡ false
layout-fits lines l out h o =
    let g = grid_of lines in
    let rs = h.rects in
    rw (
      h.made,
      short-agrees lines g rs out,
      le-ltb (length out.columns) (2 * (length (column_lines g rs) - 1)) (omega (arith, column_lines-few g rs, read-narrow h.checks, o.columns)),
      le-ltb (length out.rows) (3 * (length (row_lines g rs) - 1)) (omega (arith, row_lines-few g rs, height-of lines, (read-limited h.checks).few_lines, o.rows)),
      le-ltb (length out.cells) (5 * length rs) (omega (arith, read-few h.checks, o.cells)),
      le-ltb (length out.ranges) (2 * inner_count rs) (omega (arith, all_lines lines rs h.checks, o.ranges)),
    )
