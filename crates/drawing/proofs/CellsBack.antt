-- Cells, read back. The boxes of a drawing are tiles (`frames-tiles`). Where none splits they are what is traced (`frames-traced`), the
-- lines between them are the drawn ones (`column_lines-back`, `row_lines-back`), and the cells read are the same (`cells_same`).
use Prim.Native.Nat.{ℕ, suc, ◌+◌, ◌-◌, ◌≤◌, ◌<◌}
use mathlib.Core.Path.{◌≡◌, sym, ap, subst, ◌∙◌}
use mathlib.Core.Bool.{true, false}
use mathlib.Core.Logic.{◌⊎◌, inl, inr, ⊎_elim}
use mathlib.Core.List.Memᴰ
use mathlib.Core.List.{List, map, map-map, Memᴰ}
use native.Mathlib.Omega.{arith}
use native.Mathlib.Nat.{eq-or-lt_of_le}
use lib.ListN.{length, get_or}
use Rattle.seq.specs.Lists.{count}
use Rattle.seq.proofs.Searches.{count_map}
use Rattle.seq.proofs.Positions.{get_or-mem}
use Rattle.seq.proofs.FlatMaps.{map_same}
use Rattle.text.specs.Lines.{no_text}
use Rattle.grid.specs.Values.{Line, Rect, TableCell, Table}
use Rattle.grid.specs.Slots.{Grid, grid_of}
use Rattle.grid.specs.Trace.{covered, trace}
use Rattle.grid.specs.Layout.{column_lines, row_lines, index_of, cell_read, layout_of}
use Rattle.grid.specs.Cut.{table_cell, table_of}
use Rattle.grid.specs.Same.{drawn_lines, normal_cell}
use Rattle.grid.specs.Cover.{Bordered, First, Cover, holds}
use Rattle.grid.proofs.LayoutLaws.{column_lines-rise, row_lines-rise, column_lines-edges, row_lines-edges}
use Rattle.grid.proofs.TileLaws.{Tiles, tiles-traced}
use Rattle.grid.proofs.DrawnLineLaws.{dropped-rows, drawn-trimmed, drawn-dropped, normal-again}
use Rattle.grid.proofs.CellLaws.{cut_at, cell-lines}
use Rattle.drawing.specs.Sizes.{widths, heights, offsets}
use Rattle.drawing.specs.Plain.{Box, Canvas, box_of, canvas_of, canvas_width, canvas_height, canvas_lines}
use Rattle.drawing.specs.Redraw.{splits}
use Rattle.drawing.proofs.ReadRules.{cell, table-cells}
use Rattle.drawing.proofs.OffsetLaws.{offsets-length, offsets-only, offsets-index}
use Rattle.drawing.proofs.KeptLaws.{Kept}
use Rattle.drawing.proofs.BoxLaws.{box-at}
use Rattle.drawing.proofs.RuleRows.{Lined}
use Rattle.drawing.proofs.CanvasLaws.{Fine, x_at, y_at, cell_box, widths-length, heights-length, canvas-width, canvas-height, box-cell, cell-box, cell-tall, canvas-tiled, frames, frames-cells, frame-cell, frames-ordered, frames-few}
use Rattle.drawing.proofs.LinedLaws.{canvas-lined}
use Rattle.drawing.proofs.GlyphRows.{grid-width, grid-height, glyph_at-gap, box-bordered}
use Rattle.drawing.proofs.FirstBoxes.{unsplit-first, Part, split-first}
use Rattle.drawing.proofs.CutBoxes.{cut_at-box}

module _ {t : Table} (F : Fine t) (o : ℕ) where
  abbrev v : Canvas
  v = canvas_of t

  abbrev pub lines : List Line
  lines = canvas_lines o (canvas_of t)

  abbrev pub g : Grid
  g = grid_of (canvas_lines o (canvas_of t))

  abbrev pub L : Lined v
  L = canvas-lined F

  U : Kept t
  U = F.rules

  abbrev fs : List Rect
  fs = frames F

  pub cell-bordered : {c : TableCell} → Memᴰ c t.cells → Bordered g (cell_box t c).frame
  cell-bordered m = box-bordered L o (cell-box F m)

  frame-once : (y x : ℕ) → suc y < canvas_height v → suc x < canvas_width v → count (holds y x) fs ≡ 1
  frame-once y x u w = count_map (λ (b : Box). b.frame) (holds y x) v.boxes ∙ (canvas-tiled F).square y x u w

  pub frames-tiles : Tiles g fs
  frames-tiles =
      record {
        tall = omega (arith, grid-height L o, (canvas-tiled F).two_lines);
        wide = omega (arith, grid-width L o, (canvas-tiled F).two_columns);
        each = λ q m. let (c, n, e) = frame-cell F m in subst (Bordered g) e (cell-bordered n);
        once = λ y x u w. frame-once y x (omega (arith, grid-height L o)) (omega (arith, grid-width L o));
        ordered = frames-ordered F;
      }

  pub cell-first : {c : TableCell} → Memᴰ c t.cells → splits g (cell_box t c).frame ≡ false → First g (cell_box t c).frame
  cell-first m s = unsplit-first (cell-bordered m) (glyph_at-gap L o (cell-box F m)) s

  pub cell-part : {c : TableCell} (m : Memᴰ c t.cells) → splits g (cell_box t c).frame ≡ true → Part (cell-bordered m) (glyph_at-gap L o (cell-box F m))
  cell-part m s = split-first (cell-bordered m) (glyph_at-gap L o (cell-box F m)) s

  -- no cell splits
  abbrev pub Unsplit : Type 0
  Unsplit = (c : TableCell) → Memᴰ c t.cells → splits (grid_of (canvas_lines o (canvas_of t))) (cell_box t c).frame ≡ false

  module _ (unsplit : Unsplit) where
    frame-first : (q : Rect) → Memᴰ q fs → First g q
    frame-first q m = let (c, n, e) = frame-cell F m in subst (First g) e (cell-first n (unsplit c n))

    pub frames-traced : trace g ≡ covered fs
    frames-traced = tiles-traced frames-tiles (frames-few F) frame-first

    pub frames-cover : Cover g fs
    frames-cover = record { tall = frames-tiles.tall; wide = frames-tiles.wide; first = frame-first; once = frames-tiles.once }

    -- ---- lines
    abbrev xs : List ℕ
    xs = offsets (widths t)

    abbrev ys : List ℕ
    ys = offsets (heights t)

    abbrev C : ℕ
    C = length t.columns

    abbrev R : ℕ
    R = length t.sections

    pub xs-length : length xs ≡ suc C
    xs-length = offsets-length 0 (widths t) ∙ ap suc (widths-length t)

    pub ys-length : length ys ≡ suc R
    ys-length = offsets-length 0 (heights t) ∙ ap suc (heights-length t)

    frame-in : {c : TableCell} → Memᴰ c t.cells → Memᴰ (cell_box t c).frame fs
    frame-in m = Memᴰ.map (λ (b : Box). b.frame) (cell-box F m)

    -- a column line is an edge: the left of a cell that starts there, or the right of one at the end
    x-edge : (j : ℕ) → j ≤ C → (c : TableCell) × Memᴰ c t.cells × ((x_at t j ≡ (cell_box t c).frame.left) ⊎ (x_at t j ≡ (cell_box t c).frame.right))
    unfolding box_of
    x-edge j u = ⊎_elim at-end at-start (eq-or-lt_of_le u) where
      at-start : j < C → (c : TableCell) × Memᴰ c t.cells × ((x_at t j ≡ (cell_box t c).frame.left) ⊎ (x_at t j ≡ (cell_box t c).frame.right))
      at-start w = let (c, m, e) = U.column_start j w in (c, m, inl (ap (x_at t) (sym e)))

      at-end : j ≡ C → (c : TableCell) × Memᴰ c t.cells × ((x_at t j ≡ (cell_box t c).frame.left) ⊎ (x_at t j ≡ (cell_box t c).frame.right))
      at-end e =
          let (b, m, q) = box-at (canvas-tiled F) 0 (canvas_width v - 2) (omega (arith, (canvas-tiled F).two_lines)) (omega (arith, (canvas-tiled F).two_columns)) in
          let (c, n, made) = box-cell F m in
          let r = ap (λ (z : Box). z.frame.right) made in
          (c, n, inr (ap (x_at t) e ∙ omega (arith, q.before, ((canvas-tiled F).sized b m).near, canvas-width t)))

    y-edge : (j : ℕ) → j ≤ R → (c : TableCell) × Memᴰ c t.cells × ((y_at t j ≡ (cell_box t c).frame.top) ⊎ (y_at t j ≡ (cell_box t c).frame.bottom))
    unfolding box_of
    y-edge j u = ⊎_elim at-end at-start (eq-or-lt_of_le u) where
      at-start : j < R → (c : TableCell) × Memᴰ c t.cells × ((y_at t j ≡ (cell_box t c).frame.top) ⊎ (y_at t j ≡ (cell_box t c).frame.bottom))
      at-start w = let (c, m, e) = U.row_start j w in (c, m, inl (ap (y_at t) (sym e)))

      at-end : j ≡ R → (c : TableCell) × Memᴰ c t.cells × ((y_at t j ≡ (cell_box t c).frame.top) ⊎ (y_at t j ≡ (cell_box t c).frame.bottom))
      at-end e =
          let (b, m, q) = box-at (canvas-tiled F) (canvas_height v - 2) 0 (omega (arith, (canvas-tiled F).two_lines)) (omega (arith, (canvas-tiled F).two_columns)) in
          let (c, n, made) = box-cell F m in
          let r = ap (λ (z : Box). z.frame.bottom) made in
          (c, n, inr (ap (y_at t) e ∙ omega (arith, q.above, ((canvas-tiled F).sized b m).low, canvas-height t)))

    on-x : {c : TableCell} → Memᴰ c t.cells → (x : ℕ) → (x ≡ (cell_box t c).frame.left) ⊎ (x ≡ (cell_box t c).frame.right) → Memᴰ x xs
    unfolding box_of
    on-x {c} m x (inl e) = rw e (get_or-mem xs c.column 0 (omega (arith, xs-length, (U.lies c m).near)))
    on-x {c} m x (inr e) = rw e (get_or-mem xs (c.column + c.colspan) 0 (omega (arith, xs-length, (U.lies c m).near)))

    on-y : {c : TableCell} → Memᴰ c t.cells → (y : ℕ) → (y ≡ (cell_box t c).frame.top) ⊎ (y ≡ (cell_box t c).frame.bottom) → Memᴰ y ys
    unfolding box_of
    on-y {c} m y (inl e) = rw e (get_or-mem ys c.row 0 (omega (arith, ys-length, (U.lies c m).low)))
    on-y {c} m y (inr e) = rw e (get_or-mem ys (c.row + c.rowspan) 0 (omega (arith, ys-length, (U.lies c m).low)))

    pub column_lines-back : column_lines g fs ≡ xs
    column_lines-back =
        offsets-only (column_lines g fs) (widths t) (column_lines-rise g fs)
        (λ x m.
        let (q, n, d) = (column_lines-edges frames-cover x).0 m in
        let (c, k, e) = frame-cell F n in
        on-x k x (⊎_elim (λ i. inl (i ∙ sym (ap (λ (z : Rect). z.left) e))) (λ i. inr (i ∙ sym (ap (λ (z : Rect). z.right) e))) d))
        (λ j u. let (c, k, d) = x-edge j (omega (arith, widths-length t)) in (column_lines-edges frames-cover (x_at t j)).1 ((cell_box t c).frame, frame-in k, d))

    pub row_lines-back : row_lines g fs ≡ ys
    row_lines-back =
        offsets-only (row_lines g fs) (heights t) (row_lines-rise g fs)
        (λ y m.
        let (q, n, d) = (row_lines-edges frames-cover y).0 m in
        let (c, k, e) = frame-cell F n in
        on-y k y (⊎_elim (λ i. inl (i ∙ sym (ap (λ (z : Rect). z.top) e))) (λ i. inr (i ∙ sym (ap (λ (z : Rect). z.bottom) e))) d))
        (λ j u. let (c, k, d) = y-edge j (omega (arith, heights-length t)) in (row_lines-edges frames-cover (y_at t j)).1 ((cell_box t c).frame, frame-in k, d))

    -- the number of a line
    x-index : (j : ℕ) → j ≤ C → index_of (column_lines g fs) (x_at t j) ≡ j
    x-index j u = offsets-index (column_lines g fs) (widths t) column_lines-back j (omega (arith, widths-length t))

    y-index : (j : ℕ) → j ≤ R → index_of (row_lines g fs) (y_at t j) ≡ j
    y-index j u = offsets-index (row_lines g fs) (heights t) row_lines-back j (omega (arith, heights-length t))

    -- ---- cells
    lines-back : {c : TableCell} → Memᴰ c t.cells → (table_cell lines (layout_of lines g fs) (cell_read g fs (cell_box t c).frame)).lines ≡ drawn_lines c.lines
    unfolding box_of
    lines-back {c} m =
        let b = cell_box t c in
        let n = cell-box F m in
        cell-lines lines g fs frames-cover (frame-in m)
        ∙ dropped-rows (drawn_lines c.lines) (b.frame.bottom - b.frame.top - 1) (b.frame.top + 1) (λ y. (cut_at lines g b.frame y).text)
        (λ i w.
        let e : b.frame.top + 1 + i - b.frame.top - 1 ≡ i = omega arith in
        cut_at-box L o n (b.frame.top + 1 + i) (omega arith) (omega arith) (drawn-trimmed c.lines (b.frame.top + 1 + i - b.frame.top - 1))
        ∙ ap (λ (j : ℕ). get_or (drawn_lines c.lines) j no_text) e) (omega (arith, cell-tall F m))
        ∙ drawn-dropped c.lines

    row_back : {c : TableCell} → Memᴰ c t.cells → (cell_read g fs (cell_box t c).frame).row ≡ c.row
    unfolding cell_read box_of
    row_back {c} m = y-index c.row (omega (arith, (U.lies c m).low))

    column-back : {c : TableCell} → Memᴰ c t.cells → (cell_read g fs (cell_box t c).frame).column ≡ c.column
    unfolding cell_read box_of
    column-back {c} m = x-index c.column (omega (arith, (U.lies c m).near))

    colspan-back : {c : TableCell} → Memᴰ c t.cells → (cell_read g fs (cell_box t c).frame).colspan ≡ c.colspan
    unfolding cell_read box_of
    colspan-back {c} m =
        let e = x-index c.column (omega (arith, (U.lies c m).near)) in
        let f = x-index (c.column + c.colspan) (U.lies c m).near in
        omega arith

    rowspan-back : {c : TableCell} → Memᴰ c t.cells → (cell_read g fs (cell_box t c).frame).rowspan ≡ c.rowspan
    unfolding cell_read box_of
    rowspan-back {c} m =
        let e = y-index c.row (omega (arith, (U.lies c m).low)) in
        let f = y-index (c.row + c.rowspan) (U.lies c m).low in
        omega arith

    -- a cell is read back as it is, with its lines as they are drawn
    cell-back : (c : TableCell) → Memᴰ c t.cells → table_cell lines (layout_of lines g fs) (cell_read g fs (cell_box t c).frame) ≡ normal_cell c
    unfolding normal_cell table_cell
    cell-back c m =
        let p = row_back m in
        let q = column-back m in
        let r = colspan-back m in
        let s = rowspan-back m in
        let l = lines-back m in
        λ i. record { row = p i; column = q i; colspan = r i; rowspan = s i; lines = l i }

    cells-back : (table_of lines (layout_of lines g fs)).cells ≡ map normal_cell t.cells
    cells-back =
        table-cells lines g fs frames-cover ∙ ap (map (cell lines g fs frames-cover)) (frames-cells F)
        ∙ map-map (cell lines g fs frames-cover) (λ (c : TableCell). (cell_box t c).frame) t.cells
        ∙ map_same (λ (c : TableCell). cell lines g fs frames-cover (cell_box t c).frame) normal_cell t.cells cell-back

    -- the cells read are the same
    pub cells_same : map normal_cell (table_of lines (layout_of lines g fs)).cells ≡ map normal_cell t.cells
    cells_same =
        ap (map normal_cell) cells-back ∙ map-map normal_cell normal_cell t.cells
        ∙ map_same (λ (c : TableCell). normal_cell (normal_cell c)) normal_cell t.cells (λ c m. normal-again c)
