-- The canvas of a table that keeps the grid rules (`Fine`): its boxes hold every square once (`canvas-tiled`), their lines fit them
-- (`canvas-written`), they stand in order (`frames-ordered`). `x_at` and `y_at` are its column and row lines, `cell_box` a cell's box.
use Prim.Native.Nat.{ℕ, suc, ◌+◌, ◌≤◌, ◌<◌}
use mathlib.Core.Path.{◌≡◌, refl, sym, ap, ap₂, subst, ◌∙◌}
use mathlib.Core.Bool.{true, ◌&&◌}
use mathlib.Core.Logic.{◌⊎◌, inl, inr, ⊎_elim}
use mathlib.Core.List.Memᴰ
use mathlib.Core.List.{List, map, map-map, Memᴰ}
use native.Mathlib.Omega.{arith}
use native.Mathlib.Nat.{le_refl, le_trans}
use lib.ListN.{length, get_or, length-map}
use Rattle.seq.specs.Lists.{count, neighbours, last_or}
use Rattle.seq.proofs.Tests.{lex-above, lex-beside, lex-cases}
use Rattle.seq.proofs.Searches.{count_map, count-agree, neighbours-map, neighbours-imply}
use Rattle.seq.proofs.Positions.{get_d_map}
use Rattle.seq.proofs.Pointwise.{pointwise-length, pointwise-at}
use Rattle.text.specs.Utf8.{well_formed}
use Rattle.text.specs.Lines.{no_text}
use Rattle.text.proofs.Utf8Laws.{well-line}
use Rattle.text.proofs.PartLaws.{well-trimmed}
use Rattle.grid.specs.Values.{Rect, TableCell, Table}
use Rattle.grid.specs.Same.{drawn_lines}
use Rattle.grid.specs.Cover.{holds, precedes}
use Rattle.grid.specs.declared.TableAlignment.{TableAlignment}
use Rattle.grid.specs.declared.TableAlignment.TheVariants.{None, Left, Right, Center}
use Rattle.grid.specs.declared.GridTableSection.{GridTableSection}
use Rattle.grid.specs.declared.GridTableSection.TheVariants.{Head}
use Rattle.grid.proofs.DrawnLineLaws.{drawn-line-at}
use Rattle.drawing.specs.GridRules.{comes_before, holds_square}
use Rattle.drawing.specs.Sizes.{widest, least_width, start_width, width_need, height_need, widths, heights, offsets}
use Rattle.drawing.specs.Plain.{Box, Canvas, box_of, canvas_at, canvas_of, canvas_width, canvas_height}
use Rattle.drawing.proofs.MeasureLaws.{widest-measure}
use Rattle.drawing.proofs.FitLaws.{fit-grows, fit-meets}
use Rattle.drawing.proofs.OffsetLaws.{offsets-last, offsets-have, offset_up, offset-le, offset-lt, offset-same, offset-place, offset-leb, offset-ltb}
use Rattle.drawing.proofs.KeptLaws.{Lies, Kept}
use Rattle.drawing.proofs.BoxLaws.{Sized, Tiled}
use Rattle.drawing.proofs.RowLaws.{Fits, Written}
use Rattle.drawing.proofs.RuleRows.{Side}

-- ---- sizes
least-one : (a : TableAlignment) → 1 ≤ least_width a
least-one None = omega arith
least-one Left = omega arith
least-one Right = omega arith
least-one Center = omega arith

module _ (t : Table) where
  abbrev starting : List ℕ
  starting = map start_width t.columns

  abbrev ones : List ℕ
  ones = map (λ (s : GridTableSection). 1) t.sections

  pub widths-length : length (widths t) ≡ length t.columns
  unfolding widths
  widths-length = sym (pointwise-length (fit-grows starting (map width_need t.cells))) ∙ length-map t.columns start_width

  pub heights-length : length (heights t) ≡ length t.sections
  unfolding heights
  heights-length = sym (pointwise-length (fit-grows ones (map height_need t.cells))) ∙ length-map t.sections (λ s. 1)

  -- the alignment of column k
  abbrev pub alignment_in : ℕ → TableAlignment
  alignment_in k = (get_or t.columns k (record { alignment = None; width = 0 })).alignment

  pub widths-least : (k : ℕ) → k < length t.columns → least_width (alignment_in k) ≤ get_or (widths t) k 0
  unfolding widths
  widths-least k h =
      let c = get_or t.columns k (record { alignment = None; width = 0 }) in
      let s : get_or starting k 0 ≡ start_width c = get_d_map start_width t.columns k 0 (record { alignment = None; width = 0 }) h in
      omega (arith, pointwise-at (fit-grows starting (map width_need t.cells)) k)

  heights-one : (j : ℕ) → j < length (heights t) → 1 ≤ get_or (heights t) j 0
  unfolding heights
  heights-one j h =
      let s : get_or ones j 0 ≡ 1 = get_d_map (λ (s : GridTableSection). 1) t.sections j 0 Head (omega (arith, heights-length)) in
      omega (arith, pointwise-at (fit-grows ones (map height_need t.cells)) j)

  widths-one : (j : ℕ) → j < length (widths t) → 1 ≤ get_or (widths t) j 0
  widths-one j h = le_trans (least-one (alignment_in j)) (widths-least j (omega (arith, widths-length)))

  -- column line j and row line j
  abbrev pub x_at : ℕ → ℕ
  x_at j = get_or (offsets (widths t)) j 0

  abbrev pub y_at : ℕ → ℕ
  y_at j = get_or (offsets (heights t)) j 0

  abbrev pub cell_box : TableCell → Box
  cell_box c = box_of (offsets (widths t)) (offsets (heights t)) c

  pub canvas-width : canvas_width (canvas_of t) ≡ suc (x_at (length t.columns))
  unfolding canvas_of canvas_at
  canvas-width = omega (arith, offsets-last 0 (widths t) 0 ∙ ap x_at widths-length)

  pub y_at-last : last_or (offsets (heights t)) 0 ≡ y_at (length t.sections)
  y_at-last = offsets-last 0 (heights t) 0 ∙ ap y_at heights-length

  pub canvas-height : canvas_height (canvas_of t) ≡ suc (y_at (length t.sections))
  unfolding canvas_of canvas_at
  canvas-height = omega (arith, y_at-last)

  canvas-boxes : (canvas_of t).boxes ≡ map cell_box t.cells
  unfolding canvas_of canvas_at
  canvas-boxes = refl

  pub canvas-columns : (canvas_of t).columns ≡ t.columns
  unfolding canvas_of canvas_at
  canvas-columns = refl

-- a table that redraw's checks 1, 2, 3 and 8 let pass
pub record Fine (t : Table) : Type 0 where
  pub rules : Kept t
  pub some_column : 0 < length t.columns
  pub some_row : 0 < length t.sections
  pub well : (c : TableCell) → Memᴰ c t.cells → (l : List ℕ) → Memᴰ l c.lines → well_formed l ≡ true
  pub few : length t.cells ≤ 1024

module _ {t : Table} (F : Fine t) where
  U : Kept t
  U = F.rules

  abbrev C : ℕ
  C = length t.columns

  abbrev R : ℕ
  R = length t.sections

  abbrev v : Canvas
  v = canvas_of t

  -- the canvas's boxes are the cells'
  pub box-cell : {b : Box} → Memᴰ b v.boxes → (c : TableCell) × Memᴰ c t.cells × (cell_box t c ≡ b)
  box-cell {b} m = Memᴰ.of_map (cell_box t) t.cells (subst (λ (l : List Box). Memᴰ b l) (canvas-boxes t) m)

  pub cell-box : {c : TableCell} → Memᴰ c t.cells → Memᴰ (cell_box t c) v.boxes
  cell-box {c} m = subst (λ (l : List Box). Memᴰ (cell_box t c) l) (sym (canvas-boxes t)) (Memᴰ.map (cell_box t) m)

  pub x_at-up : (i j : ℕ) → i < j → j ≤ C → x_at t i + 2 ≤ x_at t j
  x_at-up i j u w = offset_up (widths t) (widths-one t) j i u (omega (arith, widths-length t))

  pub y_at-up : (i j : ℕ) → i < j → j ≤ R → y_at t i + 2 ≤ y_at t j
  y_at-up i j u w = offset_up (heights t) (heights-one t) j i u (omega (arith, heights-length t))

  pub x_at-le : (i j : ℕ) → i ≤ j → j ≤ C → x_at t i ≤ x_at t j
  x_at-le i j u w = offset-le (widths t) (widths-one t) i j u (omega (arith, widths-length t))

  pub y_at-le : (i j : ℕ) → i ≤ j → j ≤ R → y_at t i ≤ y_at t j
  y_at-le i j u w = offset-le (heights t) (heights-one t) i j u (omega (arith, heights-length t))

  pub x_at-lt : (i j : ℕ) → i ≤ C → x_at t i < x_at t j → i < j
  x_at-lt i j u w = offset-lt (widths t) (widths-one t) i j (omega (arith, widths-length t)) w

  pub y_at-lt : (i j : ℕ) → i ≤ R → y_at t i < y_at t j → i < j
  y_at-lt i j u w = offset-lt (heights t) (heights-one t) i j (omega (arith, heights-length t)) w

  pub x_at-same : (i j : ℕ) → i ≤ C → j ≤ C → x_at t i ≡ x_at t j → i ≡ j
  x_at-same i j u w e = offset-same (widths t) (widths-one t) i j (omega (arith, widths-length t)) (omega (arith, widths-length t)) e

  pub cell-sized : {c : TableCell} → Memᴰ c t.cells → Sized v (cell_box t c)
  unfolding box_of
  cell-sized {c} m =
      let s = U.lies c m in
      record {
        tall = omega (arith, y_at-up c.row (c.row + c.rowspan) (omega (arith, s.tall)) s.low);
        low = omega (arith, canvas-height t, y_at-le (c.row + c.rowspan) R s.low (le_refl _));
        broad = omega (arith, x_at-up c.column (c.column + c.colspan) (omega (arith, s.broad)) s.near);
        near = omega (arith, canvas-width t, x_at-le (c.column + c.colspan) C s.near (le_refl _));
      }

  -- a box holds a square of the canvas where its cell holds the square of the grid that it lies in
  holds_as : {c : TableCell} → Memᴰ c t.cells → (y x r k : ℕ) → r < R → y_at t r ≤ y → y < y_at t (suc r) → k < C → x_at t k ≤ x → x < x_at t (suc k)
      → holds y x (cell_box t c).frame ≡ holds_square r k c
  unfolding box_of
  holds_as {c} m y x r k hr lr ur hk lk uk =
      let s = U.lies c m in
      let rows = heights-length t in
      let columns = widths-length t in
      ap₂ ◌&&◌
      (ap₂ ◌&&◌
      (ap₂ ◌&&◌ (offset-leb (heights t) (heights-one t) r y (omega arith) lr ur c.row (omega (arith, s.low))) (offset-ltb (heights t) (heights-one t) r y (omega arith) lr ur (c.row + c.rowspan) (omega (arith, s.low))))
      (offset-leb (widths t) (widths-one t) k x (omega arith) lk uk c.column (omega (arith, s.near))))
      (offset-ltb (widths t) (widths-one t) k x (omega arith) lk uk (c.column + c.colspan) (omega (arith, s.near)))

  square : (y x : ℕ) → suc y < canvas_height v → suc x < canvas_width v → count (λ (b : Box). holds y x b.frame) v.boxes ≡ 1
  square y x u w =
      let (r, hr, lr, ur) = offset-place (heights t) (heights-one t) R y (omega (arith, heights-length t)) (omega (arith, canvas-height t)) in
      let (k, hk, lk, uk) = offset-place (widths t) (widths-one t) C x (omega (arith, widths-length t)) (omega (arith, canvas-width t)) in
      ap (count (λ (b : Box). holds y x b.frame)) (canvas-boxes t) ∙ count_map (cell_box t) (λ (b : Box). holds y x b.frame) t.cells
      ∙ count-agree (λ c. holds y x (cell_box t c).frame) (holds_square r k) t.cells (λ c m. holds_as m y x r k hr lr ur hk lk uk)
      ∙ U.square r k hr hk

  pub canvas-tiled : Tiled v
  canvas-tiled =
      record {
        sized = λ b m. let (c, n, e) = box-cell m in subst (λ (z : Box). Sized v z) e (cell-sized n);
        square = square;
        two_lines = omega (arith, canvas-height t, y_at-up 0 R F.some_row (le_refl _));
        two_columns = omega (arith, canvas-width t, x_at-up 0 C F.some_column (le_refl _));
      }

  -- ---- texts
  cell-broad : {c : TableCell} → Memᴰ c t.cells → widest (drawn_lines c.lines) + (cell_box t c).frame.left + 2 ≤ (cell_box t c).frame.right
  unfolding box_of widths
  cell-broad {c} m =
      let s = U.lies c m in
      let l = widths-length t in
      let start = length-map t.columns start_width in
      omega (
        arith,
        fit-meets (starting t) (Memᴰ.map width_need m) (omega (arith, s.broad)) (omega (arith, s.near, start)),
        offsets-have (widths t) (width_need c) (omega (arith, s.broad)) (omega (arith, s.near, l)),
      )

  pub cell-tall : {c : TableCell} → Memᴰ c t.cells → length (drawn_lines c.lines) + (cell_box t c).frame.top < (cell_box t c).frame.bottom
  unfolding box_of heights
  cell-tall {c} m =
      let s = U.lies c m in
      let l = heights-length t in
      let start = length-map {B = ℕ} t.sections (λ s. 1) in
      omega (
        arith,
        fit-meets (ones t) (Memᴰ.map height_need m) (omega (arith, s.tall)) (omega (arith, s.low, start)),
        offsets-have (heights t) (height_need c) (omega (arith, s.tall)) (omega (arith, s.low, l)),
      )

  cell-fits : {c : TableCell} → Memᴰ c t.cells → (i : ℕ) → Fits (cell_box t c) i
  unfolding box_of
  cell-fits {c} m i =
      record {
        well = ap well_formed (drawn-line-at c.lines i) ∙ well-trimmed (get_or c.lines i no_text) (well-line c.lines (F.well c m) i);
        fits = omega (arith, cell-broad m, widest-measure (drawn_lines c.lines) i);
      }

  pub canvas-written : Written v
  canvas-written = record { tiled = canvas-tiled; texts = λ b m i. let (c, n, e) = box-cell m in subst (λ (z : Box). Fits z i) e (cell-fits n i) }

  -- ---- the sides of boxes are column lines
  pub side-x_at : {b : Box} → Memᴰ b v.boxes → (x : ℕ) → Side b x → (j : ℕ) × (j ≤ C) × (x ≡ x_at t j)
  unfolding box_of
  side-x_at {b} m x d = let (c, n, e) = box-cell m in go c (U.lies c n) e d where
    go : (c : TableCell) → Lies t c → cell_box t c ≡ b → (x ≡ b.frame.left) ⊎ (x ≡ b.frame.right) → (j : ℕ) × (j ≤ C) × (x ≡ x_at t j)
    go c s e (inl q) = (c.column, omega (arith, s.near), q ∙ sym (ap (λ (z : Box). z.frame.left) e))
    go c s e (inr q) = (c.column + c.colspan, s.near, q ∙ sym (ap (λ (z : Box). z.frame.right) e))

  pub canvas-spaced : (b c : Box) → Memᴰ b v.boxes → Memᴰ c v.boxes → (x z : ℕ) → Side b x → Side c z → x < z → x + 1 < z
  canvas-spaced b c m n x z d e u =
      let (i, hi, qi) = side-x_at m x d in
      let (j, hj, qj) = side-x_at n z e in
      omega (arith, x_at-up i j (x_at-lt i j hi (omega arith)) hj)

  -- ---- order
  abbrev pub frames : List Rect
  frames = map (λ (b : Box). b.frame) (canvas_of t).boxes

  pub frames-cells : frames ≡ map (λ (c : TableCell). (cell_box t c).frame) t.cells
  frames-cells = ap (map (λ (b : Box). b.frame)) (canvas-boxes t) ∙ map-map (λ (b : Box). b.frame) (cell_box t) t.cells

  pub frame-cell : {q : Rect} → Memᴰ q frames → (c : TableCell) × Memᴰ c t.cells × ((cell_box t c).frame ≡ q)
  frame-cell {q} m = Memᴰ.of_map (λ (c : TableCell). (cell_box t c).frame) t.cells (subst (λ (l : List Rect). Memᴰ q l) frames-cells m)

  frame-precedes : (a b : TableCell) → Memᴰ a t.cells → Memᴰ b t.cells → comes_before a b ≡ true → precedes (cell_box t a).frame (cell_box t b).frame ≡ true
  unfolding box_of
  frame-precedes a b m n e =
      let sa = U.lies a m in
      let sb = U.lies b n in
      ⊎_elim (λ (h : a.row < b.row). lex-above (y_at t a.row) (y_at t b.row) (x_at t a.column) (x_at t b.column) (omega (arith, y_at-up a.row b.row h (omega (arith, sb.low)))))
      (λ (h : (a.row ≡ b.row) × (a.column < b.column)).
      lex-beside (y_at t a.row) (y_at t b.row) (x_at t a.column) (x_at t b.column) (ap (y_at t) h.0) (omega (arith, x_at-up a.column b.column h.1 (omega (arith, sb.near)))))
      (lex-cases a.row b.row a.column b.column e)

  pub frames-ordered : neighbours precedes frames ≡ true
  frames-ordered =
      ap (neighbours precedes) frames-cells ∙ neighbours-map (λ (c : TableCell). (cell_box t c).frame) precedes t.cells
      ∙ neighbours-imply comes_before (λ a b. precedes (cell_box t a).frame (cell_box t b).frame) t.cells frame-precedes U.ordered

  pub frames-few : length frames ≤ 1024
  frames-few = omega (arith, ap length frames-cells, length-map t.cells (λ (c : TableCell). (cell_box t c).frame), F.few)
