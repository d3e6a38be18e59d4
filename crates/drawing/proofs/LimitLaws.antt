-- The limits that redraw's checks test, as numbers, both ways: `limits-shape` and `shape-limits` of a table's shape, `limits-lines` and
-- `lines-limits` of its lines; `table_too_large-parts` and `drawn_too_large-parts` take the tests apart.
use Prim.Native.Nat.{ℕ, ◌≤◌}
use mathlib.Core.Path.{◌≡◌}
use mathlib.Core.Bool.{Bool, false, ◌||◌}
use mathlib.Core.List.{List, map, Memᴰ}
use lib.Dec.{ltb}
use borrow.Author.Tests.{ltb-false, le-ltb}
use lib.ListN.{length}
use Rattle.seq.specs.Lists.{sum, any}
use Rattle.seq.proofs.Tests.{or-none, or-neither}
use Rattle.seq.proofs.Searches.{any_none, none_any}
use Rattle.grid.specs.Limits.{max_lines, max_line_bytes, max_bytes, max_width, max_columns, max_rows, max_cells, max_origin, max_table_lines}
use Rattle.grid.specs.Values.{Line, GridTableColumn, TableCell, Table}
use Rattle.grid.specs.Read.{drawing_too_large}
use Rattle.grid.specs.Flat.{table_lines}
use Rattle.drawing.specs.Plain.{Canvas, canvas_width}
use Rattle.drawing.specs.Redraw.{shape_too_large, lines_too_large, table_too_large, drawn_too_large}

-- ---- the shape
pub record ShapeLimits (t : Table) : Type 0 where
  pub columns : length t.columns ≤ 127
  pub rows : length t.sections ≤ 127
  pub cells : length t.cells ≤ 1024
  pub widths : (c : GridTableColumn) → Memᴰ c t.columns → c.width ≤ 128

module _ (t : Table) where
  abbrev too_wide : GridTableColumn → Bool
  too_wide c = ltb max_width c.width

  pub limits-shape : ShapeLimits t → shape_too_large t ≡ false
  unfolding shape_too_large
  limits-shape s =
      or-none
      (or-none (or-none (le-ltb max_columns (length t.columns) s.columns) (le-ltb max_rows (length t.sections) s.rows)) (le-ltb max_cells (length t.cells) s.cells))
      (none_any too_wide t.columns (λ c m. le-ltb max_width c.width (s.widths c m)))

  pub shape-limits : shape_too_large t ≡ false → ShapeLimits t
  unfolding shape_too_large
  shape-limits e =
      let columns = ltb max_columns (length t.columns) in
      let rows = ltb max_rows (length t.sections) in
      let cells = ltb max_cells (length t.cells) in
      let (a, wide) = or-neither (columns || rows || cells) (any too_wide t.columns) e in
      let (b, many) = or-neither (columns || rows) cells a in
      let (c, d) = or-neither columns rows b in
      record {
        columns = ltb-false max_columns (length t.columns) c;
        rows = ltb-false max_rows (length t.sections) d;
        cells = ltb-false max_cells (length t.cells) many;
        widths = λ c m. ltb-false max_width c.width (any_none too_wide wide m);
      }

-- ---- the lines
pub record LineLimits (t : Table) : Type 0 where
  pub each : (c : TableCell) → Memᴰ c t.cells → length c.lines ≤ 128
  pub lines : length (table_lines t) ≤ 16384
  pub short : (line : List ℕ) → Memᴰ line (table_lines t) → length line ≤ 512
  pub bytes : sum (map length (table_lines t)) ≤ 32768

module _ (t : Table) where
  abbrev too_many : TableCell → Bool
  too_many c = ltb max_lines (length c.lines)

  abbrev too_long : List ℕ → Bool
  too_long line = ltb max_line_bytes (length line)

  pub limits-lines : LineLimits t → lines_too_large t ≡ false
  unfolding lines_too_large
  limits-lines s =
      or-none
      (or-none (or-none (none_any too_many t.cells (λ c m. le-ltb max_lines (length c.lines) (s.each c m))) (le-ltb max_table_lines (length (table_lines t)) s.lines))
      (none_any too_long (table_lines t) (λ line m. le-ltb max_line_bytes (length line) (s.short line m)))) (le-ltb max_bytes (sum (map length (table_lines t))) s.bytes)

  pub lines-limits : lines_too_large t ≡ false → LineLimits t
  unfolding lines_too_large
  lines-limits e =
      let many = any too_many t.cells in
      let lines = ltb max_table_lines (length (table_lines t)) in
      let long = any too_long (table_lines t) in
      let (a, bytes) = or-neither (many || lines || long) (ltb max_bytes (sum (map length (table_lines t)))) e in
      let (b, short) = or-neither (many || lines) long a in
      let (c, d) = or-neither many lines b in
      record {
        each = λ x m. ltb-false max_lines (length x.lines) (any_none too_many c m);
        lines = ltb-false max_table_lines (length (table_lines t)) d;
        short = λ line m. ltb-false max_line_bytes (length line) (any_none too_long short m);
        bytes = ltb-false max_bytes (sum (map length (table_lines t))) bytes;
      }

-- ---- the tests, taken apart
pub table_too_large-parts : (o : ℕ) (t : Table) → table_too_large o t ≡ false → (o ≤ 255) × (shape_too_large t ≡ false) × (lines_too_large t ≡ false)
unfolding table_too_large
table_too_large-parts o t e =
    let (front, lines) = or-neither (ltb max_origin o || shape_too_large t) (lines_too_large t) e in
    let (origin, shape) = or-neither (ltb max_origin o) (shape_too_large t) front in
    (ltb-false max_origin o origin, shape, lines)

pub drawn_too_large-parts : (v : Canvas) (ls : List Line) → drawn_too_large v ls ≡ false → (ltb max_width (canvas_width v) ≡ false) × (drawing_too_large ls ≡ false)
unfolding drawn_too_large
drawn_too_large-parts v ls e = or-neither (ltb max_width (canvas_width v)) (drawing_too_large ls) e
