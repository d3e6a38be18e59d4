-- A table that is read keeps all grid rules.
use Prim.Native.Nat.{ℕ, suc, ◌+◌, ◌-◌, ◌≤◌, ◌<◌}
use mathlib.Core.Path.{◌≡◌, refl, sym, ap, ap₂, ◌∙◌}
use mathlib.Core.Bool.{Bool, true, false, ◌&&◌, cond}
use mathlib.Core.List.{List, map, map-map, Memᴰ}
use native.Mathlib.Omega.{arith}
use lib.Dec.{eqb, ltb}
use lib.ListN.{length, get_or, length-map}
use borrow.Author.Tests.{lt-ltb, le-leb, eq-eqb, leb-true, ltb-true}
use Rattle.seq.specs.Lists.{range, up_to, all, any, count, neighbours}
use Rattle.seq.proofs.Tests.{true-not-false, and_intro}
use Rattle.seq.proofs.Searches.{mem-all, mem-any, all_map, any-map, count_map, count-agree, range_all, neighbours-map, neighbours-imply}
use Rattle.seq.proofs.Positions.{get_d_map}
use Rattle.seq.proofs.Rising.{Position, rising-position, position-leb, position-ltb, position-lt}
use Rattle.grid.specs.Values.{Line, Rect, Row, TableCell, Table}
use Rattle.grid.specs.Answer.{accept}
use Rattle.grid.specs.Slots.{Grid, grid_of}
use Rattle.grid.specs.Layout.{column_lines, row_lines, index_of, Between, between, head_end, foot_start, is_above, is_from, section_at, columns_read, rows_read, cell_read, layout_of}
use Rattle.grid.specs.Cut.{table_cell, table_of}
use Rattle.grid.specs.Cover.{holds, Cover, precedes}
use Rattle.grid.specs.Read.{read_table}
use Rattle.grid.specs.declared.GridTableSection.{GridTableSection}
use Rattle.grid.specs.declared.GridTableSection.TheVariants.{Head, Body, Foot}
use Rattle.grid.proofs.CoverTheorems.{traced-covers}
use Rattle.grid.proofs.LayoutLaws.{length-between, get_d_between, between-rises, column_lines-rise, row_lines-rise, left-line, right-line, top-line, bottom-line, column-inside, row_inside, column-starts, row-starts, cells-ordered}
use Rattle.grid.proofs.ReadLaws.{read_rects-passed, table-read}
use Rattle.grid.proofs.SectionLaws.{above_before, from-after, same-section}
use Rattle.grid.proofs.SeparatorLaws.{Uncut, read-uncut}
use Rattle.drawing.specs.GridRules.{may_follow, comes_before, in_order, stays_inside, all_inside, holds_square, cover_once, all_start, sections_run, same_section, none_crosses, keeps_rules}
use Rattle.drawing.proofs.KeptLaws.{lies-stays}

-- ---- sections

same-itself : (a : GridTableSection) → same_section a a ≡ true
same-itself Head = refl
same-itself Body = refl
same-itself Foot = refl

section-follows : (g : Grid) {a b : ℕ} → a ≤ b → may_follow (section_at g a) (section_at g b) ≡ true
unfolding section_at
section-follows g {a} {b} h =
    go (is_above a (head_end g)) (is_above b (head_end g)) (is_from a (foot_start g)) (is_from b (foot_start g)) (above_before h (head_end g)) (from-after h (foot_start g)) where
      go : (t u v w : Bool) → (u ≡ true → t ≡ true) → (v ≡ true → w ≡ true)
          → may_follow (cond t Head (cond v Foot Body)) (cond u Head (cond w Foot Body)) ≡ true
      go true u v w f k = refl
      go false true v w f k = absurd (true-not-false (sym (f refl)))
      go false false true true f k = refl
      go false false true false f k = absurd (true-not-false (sym (k refl)))
      go false false false true f k = refl
      go false false false false f k = refl

-- ---- the table of a cover

module _ (lines : List Line) (g : Grid) (rs : List Rect) (cover : Cover g rs) where
  abbrev pub table : Table
  table = table_of lines (layout_of lines g rs)

  abbrev pub cell : Rect → TableCell
  cell r = table_cell lines (layout_of lines g rs) (cell_read g rs r)

  abbrev pub columns : List ℕ
  columns = column_lines g rs

  abbrev pub rows : List ℕ
  rows = row_lines g rs

  pub table-cells : table.cells ≡ map cell rs
  unfolding table_of layout_of
  table-cells = map-map (table_cell lines (layout_of lines g rs)) (cell_read g rs) rs

  pub table-columns : length table.columns ≡ length columns - 1
  unfolding table_of layout_of columns_read
  table-columns = simp (length-map, length-between)

  pub table-rows : length table.sections ≡ length rows - 1
  unfolding table_of layout_of rows_read
  table-rows = simp (length-map, length-between)

  -- where the cell of a rectangle table_cell-stands
  pub record Stands (r : Rect) : Type 0 where
    pub left : Position columns r.left
    pub right : Position columns r.right
    pub top : Position rows r.top
    pub bottom : Position rows r.bottom
    pub wide : (cell r).column < index_of columns r.right
    pub tall : (cell r).row < index_of rows r.bottom
    pub column_end : (cell r).column + (cell r).colspan ≡ index_of columns r.right
    pub row_end : (cell r).row + (cell r).rowspan ≡ index_of rows r.bottom

  pub table_cell-stands : {r : Rect} → Memᴰ r rs → Stands r
  unfolding table_cell cell_read index_of
  table_cell-stands {r} m =
      let h = (cover.first r m).bordered in
      let across = position-lt columns (column_lines-rise g rs) (left-line cover m) (right-line cover m) h.left_before_right in
      let deep = position-lt rows (row_lines-rise g rs) (top-line cover m) (bottom-line cover m) h.top_above_bottom in
      record {
        left = rising-position columns (column_lines-rise g rs) (left-line cover m);
        right = rising-position columns (column_lines-rise g rs) (right-line cover m);
        top = rising-position rows (row_lines-rise g rs) (top-line cover m);
        bottom = rising-position rows (row_lines-rise g rs) (bottom-line cover m);
        wide = across;
        tall = deep;
        column_end = omega arith;
        row_end = omega arith;
      }

  -- ---- rule by rule

  in_order_lem : neighbours precedes rs ≡ true → in_order table ≡ true
  unfolding in_order table_of layout_of table_cell
  in_order_lem e = neighbours-map (table_cell lines (layout_of lines g rs)) comes_before (map (cell_read g rs) rs) ∙ cells-ordered cover e

  all-inside : all_inside table ≡ true
  unfolding all_inside index_of
  all-inside = rw table-cells (all_map cell (stays_inside table) rs ∙ mem-all (λ r. stays_inside table (cell r)) rs inside) where
    inside : (r : Rect) → Memᴰ r rs → stays_inside table (cell r) ≡ true
    inside r m =
        let p = table_cell-stands m in
        lies-stays table (cell r)
        (record {
          broad = omega (arith, p.wide, p.column_end);
          tall = omega (arith, p.tall, p.row_end);
          near = omega (arith, p.column_end, table-columns, p.right.inside);
          low = omega (arith, p.row_end, table-rows, p.bottom.inside);
        })

  -- a cell holds a square of the table where its rectangle holds the square at those lines
  holds_as : {r : Rect} → Memᴰ r rs → (i k : ℕ) → suc i < length rows → suc k < length columns
      → holds_square i k (cell r) ≡ holds (get_or rows i 0) (get_or columns k 0) r
  unfolding table_cell cell_read index_of
  holds_as {r} m i k hi hk =
      let p = table_cell-stands m in
      let rise = row_lines-rise g rs in
      let widen = column_lines-rise g rs in
      ap₂ ◌&&◌
      (ap₂ ◌&&◌ (ap₂ ◌&&◌ (position-leb rows rise (top-line cover m) i (omega arith)) (ap (ltb i) p.row_end ∙ position-ltb rows rise (bottom-line cover m) i (omega arith)))
      (position-leb columns widen (left-line cover m) k (omega arith))) (ap (ltb k) p.column_end ∙ position-ltb columns widen (right-line cover m) k (omega arith))

  square-once : (i k : ℕ) → i < length table.sections → k < length table.columns → count (holds_square i k) table.cells ≡ 1
  square-once i k hi hk =
      let y = get_or rows i 0 in
      let x = get_or columns k 0 in
      let ri : suc i < length rows = omega (arith, table-rows) in
      let ck : suc k < length columns = omega (arith, table-columns) in
      ap (count (holds_square i k)) table-cells ∙ count_map cell (holds_square i k) rs
      ∙ count-agree (λ r. holds_square i k (cell r)) (holds y x) rs (λ r m. holds_as m i k ri ck)
      ∙ cover.once y x (omega (arith, row_inside cover i ri)) (omega (arith, column-inside cover k ck))

  cover-once : cover_once table ≡ true
  unfolding cover_once
  cover-once =
      range_all (λ i. all (λ k. eqb (count (holds_square i k) table.cells) 1) (up_to (length table.columns))) 0 (length table.sections)
      (λ i _ hi.
      range_all (λ k. eqb (count (holds_square i k) table.cells) 1) 0 (length table.columns)
      (λ k _ hk. eq-eqb (count (holds_square i k) table.cells) 1 (square-once i k (omega arith) (omega arith))))

  row-start : (i : ℕ) → i < length table.sections → any (λ (c : TableCell). eqb c.row i) table.cells ≡ true
  unfolding table_of layout_of table_cell
  row-start i h =
      let found = row-starts cover i (omega (arith, simp length-map at h)) in
      ap (any (λ (c : TableCell). eqb c.row i)) table-cells ∙ any-map cell (λ (c : TableCell). eqb c.row i) rs
      ∙ mem-any (λ r. eqb (cell r).row i) found.1 (eq-eqb (cell found.0).row i found.2)

  column-start : (k : ℕ) → k < length table.columns → any (λ (c : TableCell). eqb c.column k) table.cells ≡ true
  unfolding table_of layout_of table_cell
  column-start k h =
      let found = column-starts cover lines k h in
      ap (any (λ (c : TableCell). eqb c.column k)) table-cells ∙ any-map cell (λ (c : TableCell). eqb c.column k) rs
      ∙ mem-any (λ r. eqb (cell r).column k) found.1 (eq-eqb (cell found.0).column k found.2)

  all_start_lem : all_start table ≡ true
  unfolding all_start
  all_start_lem =
      and_intro
      (range_all (λ i. any (λ (c : TableCell). eqb c.row i) table.cells) 0 (length table.sections) (λ i _ h. row-start i (omega arith)))
      (range_all (λ k. any (λ (c : TableCell). eqb c.column k) table.cells) 0 (length table.columns) (λ k _ h. column-start k (omega arith)))

  -- ---- sections

  pub table-sections : table.sections ≡ map (λ (b : Between). section_at g b.from) (between rows)
  unfolding table_of layout_of rows_read
  table-sections =
      map-map (λ (row : Row). row.section) (λ (b : Between). record { section = section_at g b.from; top = b.from; bottom = b.to }) (between rows)

  sections-run : sections_run table ≡ true
  unfolding sections_run
  sections-run =
      ap (neighbours may_follow) table-sections ∙ neighbours-map (λ (b : Between). section_at g b.from) may_follow (between rows)
      ∙ neighbours-imply (λ (a b : Between). ltb a.from b.from) (λ a b. may_follow (section_at g a.from) (section_at g b.from)) (between rows)
      (λ a b _ _ e. section-follows g (omega (arith, ltb-true a.from b.from e))) (between-rises rows (row_lines-rise g rs))

  pub section-of : (i : ℕ) → suc i < length rows → get_or table.sections i Body ≡ section_at g (get_or rows i 0)
  section-of i h =
      let nowhere : Between = record { from = 0; to = 0 } in
      ap (λ l. get_or l i Body) table-sections
      ∙ get_d_map (λ (b : Between). section_at g b.from) (between rows) i Body nowhere (omega (arith, length-between rows))
      ∙ ap (section_at g) (get_d_between rows i nowhere h)

  module _ (uncut : Uncut g rs) where
    row-section : {r : Rect} → Memᴰ r rs → (i : ℕ) → (cell r).row ≤ i → i < (cell r).row + (cell r).rowspan
        → same_section (get_or table.sections (cell r).row Body) (get_or table.sections i Body) ≡ true
    unfolding table_cell cell_read index_of
    row-section {r} m i low high =
        let p = table_cell-stands m in
        let rise = row_lines-rise g rs in
        let inside : suc i < length rows = omega (arith, p.row_end, p.bottom.inside) in
        let y = get_or rows i 0 in
        let below : r.top ≤ y = leb-true r.top y (sym (position-leb rows rise (top-line cover m) i (omega arith)) ∙ le-leb (cell r).row i low) in
        let above : y < r.bottom =
        ltb-true y r.bottom (sym (position-ltb rows rise (bottom-line cover m) i (omega arith)) ∙ lt-ltb i (index_of rows r.bottom) (omega (arith, p.row_end))) in
        let here = section-of (cell r).row (omega (arith, p.tall, p.bottom.inside)) ∙ ap (section_at g) p.top.here in
        let same = same-section g below (λ s n a b. uncut r m s n a (omega arith)) in
        rw (here, section-of i inside, same) (same-itself (section_at g y))

    none-crosses : none_crosses table ≡ true
    unfolding none_crosses
    none-crosses =
        ap (all (λ (c : TableCell). stays c)) table-cells ∙ all_map cell stays rs
        ∙ mem-all (λ r. stays (cell r)) rs
        (λ r m. range_all (λ i. same_section (get_or table.sections (cell r).row Body) (get_or table.sections i Body)) (cell r).row (cell r).rowspan (row-section m)) where
          stays : TableCell → Bool
          stays c = all (λ i. same_section (get_or table.sections c.row Body) (get_or table.sections i Body)) (range c.row c.rowspan)

    table-keeps : neighbours precedes rs ≡ true → keeps_rules table ≡ true
    unfolding keeps_rules
    table-keeps order = and_intro (and_intro (and_intro (and_intro (and_intro (in_order_lem order) all-inside) cover-once) all_start_lem) sections-run) none-crosses

-- A table that is read keeps all grid rules.
pub read_keeps : (lines : List Line) (t : Table) → read_table lines ≡ accept t → keeps_rules t ≡ true
read_keeps lines t e =
    let read = table-read lines t e in
    let rs = read.0 in
    let checks = read_rects-passed lines rs read.1 in
    let traced = traced-covers (grid_of lines) rs checks.traced in
    rw read.2 (table-keeps lines (grid_of lines) rs traced.0 (read-uncut lines rs checks) traced.2)
