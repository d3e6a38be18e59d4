-- A table that is read keeps every limit and the set of characters, and has no Foot without a Head.
use Prim.Native.Nat.{ℕ, ◌-◌, ◌≤◌, ◌<◌}
use mathlib.Core.Path.{◌≡◌, refl, sym, ap, subst, ◌∙◌}
use mathlib.Core.Bool.{Bool, true, false, not, ◌&&◌}
use mathlib.Core.Option.{none}
use mathlib.Core.List.Memᴰ
use mathlib.Core.List.{List, map, flat_map, Memᴰ}
use native.Mathlib.Omega.{arith}
use lib.Dec.{ltb}
use lib.ListN.{length, get_or, length-map}
use borrow.Author.Tests.{le-ltb, ltb-true}
use Rattle.seq.specs.Lists.{sum, any, count}
use Rattle.seq.proofs.Tests.{true-not-false, or-none}
use Rattle.seq.proofs.ListsLaws.{length_some}
use Rattle.seq.proofs.Searches.{any-mem, mem-any, count-few, count_none}
use Rattle.seq.proofs.Rising.{Position, rising-position}
use Rattle.seq.proofs.FlatMaps.{mem-flat_map, flat_map-map, length-flat_map-sum}
use Rattle.seq.proofs.Gathered.{first-nowhere}
use Rattle.seq.proofs.Positions.{get_or-mem}
use Rattle.seq.proofs.Sums.{sum-le, sum-flat_map}
use Rattle.text.specs.Utf8.{well_formed}
use Rattle.text.specs.Lines.{no_text}
use Rattle.grid.specs.Values.{Line, Rect, GridTableColumn, TableCell, Table}
use Rattle.grid.specs.Answer.{Answer, accept, refuse_if, refuse_at}
use Rattle.grid.specs.Slots.{Grid, grid_of}
use Rattle.grid.specs.Layout.{index_of, column_lines, row_lines, Between, between, alignment_at, section_at, columns_read, layout_of, inner_lines}
use Rattle.grid.specs.Cut.{table_of}
use Rattle.grid.specs.Cover.{holds, Cover}
use Rattle.grid.specs.Read.{read_table}
use Rattle.grid.specs.Flat.{table_lines, table_sizes, table_arrays}
use Rattle.grid.specs.declared.GridTableSection.{GridTableSection}
use Rattle.grid.specs.declared.GridTableSection.TheVariants.{Head, Body, Foot}
use Rattle.grid.proofs.LayoutLaws.{between-mem, column_line-inside, column_lines-few, row_lines-few, row_lines-rise, top-line, cover-holder}
use Rattle.grid.proofs.ReadLaws.{Passed, height-of, read-cover, read-few, read-limited, read-narrow, read_rects-passed, table-read}
use Rattle.grid.proofs.SeparatorLaws.{separator-later}
use Rattle.grid.proofs.SectionLaws.{foot-head}
use Rattle.grid.proofs.FlatTableLaws.{table_fits, table-again}
use Rattle.grid.proofs.CellLaws.{cut_at, cell-fewer, cell-bytes, cell-line}
use Rattle.grid.proofs.CellTexts.{all_lines, all-bytes, cut_short, cut-well}
use Rattle.drawing.specs.GridRules.{is_head, is_foot}
use Rattle.drawing.specs.Redraw.{table_empty, shape_too_large, lines_too_large, table_too_large, table_outside_set, foot_without_head, check_table, misaligned, drawn_too_large, split_cell, redraw_canvas, redraw}
use Rattle.drawing.specs.RedrawCall.{RedrawSpace, DrawingArrays, redraw_space_short, redraw_into, redraw_accepts}
use Rattle.drawing.specs.Plain.{canvas_of, canvas_lines}
use Rattle.drawing.proofs.LimitLaws.{limits-shape, limits-lines}
use Rattle.drawing.proofs.ReadRules.{table, cell, table-cells, table-columns, table-rows, table-sections, section-of, table_cell-stands, read_keeps}

is-foot : (s : GridTableSection) → is_foot s ≡ true → s ≡ Foot
is-foot Head e = absurd (true-not-false (sym e))
is-foot Body e = absurd (true-not-false (sym e))
is-foot Foot e = refl

module _ (lines : List Line) (rs : List Rect) (checks : Passed lines rs) where
  abbrev g : Grid
  g = grid_of lines

  cover : Cover g rs
  cover = read-cover checks

  tall : g.height ≤ 128
  tall = omega (arith, height-of lines, (read-limited checks).few_lines)

  abbrev t : Table
  t = table lines g rs cover

  -- ---- 1
  not-empty : table_empty t ≡ false
  unfolding table_empty index_of
  not-empty =
      let (r, m, inside) = cover-holder cover 0 0 cover.tall cover.wide in
      let p = table_cell-stands lines g rs cover m in
      let rects : 0 < length rs = omega (arith, cover.once 0 0 cover.tall cover.wide, count-few (holds 0 0) rs) in
      or-none
      (or-none (length_some t.columns (omega (arith, table-columns lines g rs cover, p.wide, p.right.inside)))
      (length_some t.sections (omega (arith, table-rows lines g rs cover, p.tall, p.bottom.inside))))
      (length_some t.cells (omega (arith, ap length (table-cells lines g rs cover), length-map rs (cell lines g rs cover))))

  -- ---- 2, of the shape
  column-narrow : (c : GridTableColumn) → Memᴰ c t.columns → c.width ≤ 128
  unfolding table_of layout_of columns_read
  column-narrow c m =
      let (b, n, made) = Memᴰ.of_map column_of (between (column_lines g rs)) m in
      omega (arith, ap (λ (c : GridTableColumn). c.width) made, column_line-inside g rs (between-mem (column_lines g rs) n), read-narrow checks) where
        column_of : Between → GridTableColumn
        column_of b = record { alignment = alignment_at lines g b.from; width = b.to - b.from - 1 }

  shape-small : shape_too_large t ≡ false
  shape-small =
      limits-shape t
      (record {
        columns = omega (arith, table-columns lines g rs cover, column_lines-few g rs, read-narrow checks);
        rows = omega (arith, table-rows lines g rs cover, row_lines-few g rs, tall);
        cells = omega (arith, ap length (table-cells lines g rs cover), length-map rs (cell lines g rs cover), read-few checks);
        widths = column-narrow;
      })

  -- ---- 2, of the lines
  abbrev cell_lines : Rect → List (List ℕ)
  cell_lines r = (cell lines g rs cover r).lines

  all-together : table_lines t ≡ flat_map cell_lines rs
  all-together = ap (flat_map (λ (c : TableCell). c.lines)) (table-cells lines g rs cover) ∙ flat_map-map (λ (c : TableCell). c.lines) (cell lines g rs cover) rs

  -- a line of the table is one that was cut
  cut_line : {line : List ℕ} → Memᴰ line (table_lines t) → (r : Rect) × (m : Memᴰ r rs) × (y : ℕ) × Memᴰ y (inner_lines r) × ((cut_at lines g r y).text ≡ line)
  cut_line {line} n =
      let (r, m, here) = mem-flat_map cell_lines rs (subst (λ (l : List (List ℕ)). Memᴰ line l) all-together n) in
      let (y, inner, made) = cell-line lines g rs cover m here in
      (r, m, y, inner, made)

  cell-small : (c : TableCell) → Memᴰ c t.cells → length c.lines ≤ 128
  cell-small c n =
      let (r, m, made) = Memᴰ.of_map (cell lines g rs cover) rs (subst (λ (l : List TableCell). Memᴰ c l) (table-cells lines g rs cover) n) in
      omega (arith, ap (λ (c : TableCell). length c.lines) made, cell-fewer lines g rs cover m, (cover.first r m).bordered.bottom_inside, tall)

  lines-few : length (table_lines t) ≤ 16384
  lines-few =
      omega (
        arith,
        ap length all-together,
        length-flat_map-sum cell_lines rs,
        sum-le (λ r. length (cell_lines r)) (λ (r : Rect). r.bottom - r.top - 1) rs (λ r m. cell-fewer lines g rs cover m),
        all_lines lines rs checks,
      )

  line-short : (line : List ℕ) → Memᴰ line (table_lines t) → length line ≤ 512
  line-short line n =
      let (r, m, y, inner, made) = cut_line n in
      omega (arith, ap length made, cut_short lines rs checks m y inner)

  bytes-few : sum (map length (table_lines t)) ≤ 32768
  bytes-few =
      omega (
        arith,
        ap (λ (l : List (List ℕ)). sum (map length l)) all-together,
        sum-flat_map length cell_lines rs,
        sum-le (λ r. sum (map length (cell_lines r))) (λ r. sum (map (λ y. length (cut_at lines g r y).text) (inner_lines r))) rs
            (λ r m. cell-bytes lines g rs cover m),
        all-bytes lines rs checks,
      )

  lines-small : lines_too_large t ≡ false
  lines-small = limits-lines t (record { each = cell-small; lines = lines-few; short = line-short; bytes = bytes-few })

  -- ---- 3
  line-well : (line : List ℕ) → Memᴰ line (table_lines t) → not (well_formed line) ≡ false
  line-well line n =
      let (r, m, y, inner, made) = cut_line n in
      ap (λ (l : List ℕ). not (well_formed l)) (sym made) ∙ ap not (cut-well lines rs checks m y inner)

  in-set : table_outside_set t ≡ none
  unfolding table_outside_set
  in-set = first-nowhere (λ line. not (well_formed line)) (table_lines t) no_text (λ j h. line-well (get_or (table_lines t) j no_text) (get_or-mem (table_lines t) j no_text h))

  -- ---- 9
  first-line : get_or (row_lines g rs) 0 0 ≡ 0
  first-line =
      let (r, m, inside) = cover-holder cover 0 0 cover.tall cover.wide in
      let top : r.top ≡ 0 = omega (arith, inside.below) in
      let p : Position (row_lines g rs) 0 = rising-position (row_lines g rs) (row_lines-rise g rs) (subst (λ (y : ℕ). Memᴰ y (row_lines g rs)) top (top-line cover m)) in
      let none_before : count (λ n. ltb n 0) (row_lines g rs) ≡ 0 = count_none (λ n. ltb n 0) (row_lines g rs) (λ n _ e. omega (arith, ltb-true n 0 e)) in
      rw none_before at p.here

  head-row : (y : ℕ) → section_at g y ≡ Foot → any is_head t.sections ≡ true
  unfolding index_of
  head-row y e =
      let (r, m, inside) = cover-holder cover 0 0 cover.tall cover.wide in
      let p = table_cell-stands lines g rs cover m in
      let rows : 1 < length (row_lines g rs) = omega (arith, p.tall, p.bottom.inside) in
      let first : get_or t.sections 0 Body ≡ Head =
      section-of lines g rs cover 0 rows ∙ ap (section_at g) first-line ∙ foot-head g (λ s n. separator-later lines n) y e in
      mem-any is_head (get_or-mem t.sections 0 Body (omega (arith, table-rows lines g rs cover))) (ap is_head first)

  foot-row : any is_foot t.sections ≡ true → (y : ℕ) × (section_at g y ≡ Foot)
  foot-row e =
      let (s, m, foot) = any-mem is_foot t.sections e in
      let (b, _, made) = Memᴰ.of_map (λ (b : Between). section_at g b.from) (between (row_lines g rs)) (subst (λ (l : List GridTableSection). Memᴰ s l) (table-sections lines g rs cover) m) in
      (b.from, made ∙ is-foot s foot)

  headed : foot_without_head t ≡ false
  unfolding foot_without_head
  headed = go (any is_foot t.sections) refl where
    go : (f : Bool) → any is_foot t.sections ≡ f → f && not (any is_head t.sections) ≡ false
    go true e = let (y, foot) = foot-row e in rw (head-row y foot)
    go false e = refl

-- ---- a table that is read
module _ (lines : List Line) (t : Table) (e : read_table lines ≡ accept t) where
  -- A table that is read has some columns, rows and cells.
  pub read-not-empty : table_empty t ≡ false
  read-not-empty = let (rs, traced, made) = table-read lines t e in rw made (not-empty lines rs (read_rects-passed lines rs traced))

  -- It keeps every limit.
  pub read-not-too-large : (origin : ℕ) → origin ≤ 255 → table_too_large origin t ≡ false
  unfolding table_too_large
  read-not-too-large origin h =
      let (rs, traced, made) = table-read lines t e in
      let checks = read_rects-passed lines rs traced in
      rw made (or-none (or-none (le-ltb _ origin h) (shape-small lines rs checks)) (lines-small lines rs checks))

  -- Each of its lines is UTF-8, with every character in the set.
  pub read-in-set : table_outside_set t ≡ none
  read-in-set = let (rs, traced, made) = table-read lines t e in rw made (in-set lines rs (read_rects-passed lines rs traced))

  -- It has no Foot row without a Head row.
  pub read-headed : foot_without_head t ≡ false
  read-headed = let (rs, traced, made) = table-read lines t e in rw made (headed lines rs (read_rects-passed lines rs traced))

  -- So it passes every check up to 8.
  pub read-passes : {A : Type 0} (origin : ℕ) → origin ≤ 255 → (next : Answer A) → check_table origin t next ≡ next
  unfolding check_table
  read-passes origin h next = rw (read-not-empty, read-not-too-large origin h, read-in-set, read_keeps lines t e)

  -- Redraw of a table that is read answers 10, 2 for the drawn size, 11, or the drawing.
  module _ (origin : ℕ) (h : origin ≤ 255) where
    abbrev drawing : List Line
    drawing = canvas_lines origin (canvas_of t)

    pub read-redraws : redraw origin t
        ≡ refuse_at (misaligned (canvas_of t)) 10
        (refuse_if (drawn_too_large (canvas_of t) drawing) 2 (refuse_at (split_cell (canvas_of t) (grid_of drawing)) 11 (accept drawing)))
    unfolding redraw redraw_canvas
    read-redraws = read-passes origin h (redraw_canvas t (canvas_of t) drawing) ∙ rw read-headed

-- From a table's own arrays the redraw call gives 13 for short working space alone.
pub arrays-redraw : (w : RedrawSpace) (origin : ℕ) (t : Table) (out : DrawingArrays)
    → redraw_accepts w origin (table_sizes t) (table_arrays t) out ≡ refuse_if (redraw_space_short w) 13 (redraw_into out origin t)
unfolding redraw_accepts
arrays-redraw w origin t out = rw (table_fits t, table-again t)
