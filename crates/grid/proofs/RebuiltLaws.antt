-- The rectangles rebuilt from the arrays of an accepted layout call are the traced ones: others cite `layout-rebuilt`.
use Prim.Native.Nat.{ℕ, zero, suc, ◌+◌, ◌-◌, ◌*◌, ◌≤◌, ◌<◌}
use mathlib.Core.Path.{◌≡◌, refl, sym, ap, ap₂, ◌∙◌}
use mathlib.Core.Bool.{◌||◌}
use mathlib.Core.List.{List, [], ◌∷◌, ◌++◌, map, flat_map, append_assoc, Memᴰ}
use native.Mathlib.Omega.{arith}
use native.Mathlib.Nat.{mul-zero, mul-suc}
use lib.ListN.{length, get_or, length-map, get_or-append}
use lib.Seq.{get_or-append-add}
use Rattle.seq.specs.Lists.{range, sum}
use Rattle.seq.proofs.Positions.{get_d_map}
use Rattle.seq.proofs.Sums.{sum-distances}
use Rattle.seq.proofs.Rising.{Position, rising-position, position-lt, rising-get_or}
use Rattle.grid.specs.Answer.{accept}
use Rattle.grid.specs.Values.{Line, Rect, Row, GridTableColumn, Layout}
use Rattle.grid.specs.Slots.{Grid, grid_of}
use Rattle.grid.specs.Layout.{column_lines, row_lines, index_of, Between, between, columns_read, rows_read, cell_read, layout_of, section_at, alignment_at}
use Rattle.grid.specs.declared.TableAlignment.TheVariants.{None}
use Rattle.grid.specs.declared.GridTableSection.TheVariants.{Body}
use Rattle.grid.specs.Cover.{Cover}
use Rattle.grid.specs.Read.{read_rects, read_layout}
use Rattle.grid.specs.Flat.{FlatDrawing, drawing_contradicts, lines_of, column_numbers}
use Rattle.grid.specs.LayoutCall.{LayoutSpace, LayoutSizes, LayoutArrays, space_short, row_numbers, cell_numbers, layout_arrays, layout_sizes, layout_short, layout_over, layout_accepts, layout_answer, layout_afterwards}
use Rattle.grid.specs.Rebuilt.{column_across, rebuilt_cell, rebuilt_from, rebuilt}
use Rattle.grid.proofs.LayoutLaws.{length-between, column_lines-rise, row_lines-rise, left-line, right-line, top-line, bottom-line, between-at}
use Rattle.grid.proofs.ReadLaws.{passed_then, afterwards-accepted, handed_out-read, read_rects-passed, read-cover, layout-read}

-- number i of the entries of element n, k entries each, with more written after all of them
get_or-entries : {A : Type 0} (f : A → List ℕ) (k : ℕ) → ((a : A) → length (f a) ≡ k) → (l : List A) (rest : List ℕ) (n i : ℕ) (d : A) → n < length l → i < k
    → get_or (flat_map f l ++ rest) (k * n + i) 0 ≡ get_or (f (get_or l n d)) i 0
unfolding flat_map
get_or-entries f k each [] rest n i d h low = absurd (omega arith)
get_or-entries f k each (a ∷ l) rest zero i d h low =
    let here : k * 0 + i ≡ i = omega (arith, mul-zero k) in
    rw (here, append_assoc (f a) (flat_map f l) rest) (get_or-append (f a) (flat_map f l ++ rest) 0 i (omega (arith, each a)))
get_or-entries f k each (a ∷ l) rest (suc n) i d h low =
    let further : k * suc n + i ≡ length (f a) + (k * n + i) = omega (arith, mul-suc k n, each a) in
    rw (further, append_assoc (f a) (flat_map f l) rest)
    (get_or-append-add (f a) (flat_map f l ++ rest) (k * n + i) 0 ∙ get_or-entries f k each l rest n i d (omega arith) low)

-- ---- the arrays of a layout, whatever stands after them
module _ (lines : List Line) (g : Grid) (rs : List Rect) (out : LayoutArrays) where
  abbrev rows : List ℕ
  rows = row_lines g rs

  abbrev columns : List ℕ
  columns = column_lines g rs

  abbrev written : LayoutArrays
  written = layout_over (layout_arrays (layout_of lines g rs)) out

  module _ (n : ℕ) (h : suc n < length rows) where
    abbrev row_of : Between → Row
    row_of b = record { section = section_at g b.from; top = b.from; bottom = b.to }

    row_written : (i : ℕ) → i < 3 → get_or written.rows (3 * n + i) 0 ≡ get_or (row_numbers (row_of (record { from = get_or rows n 0; to = get_or rows (n + 1) 0 }))) i 0
    unfolding layout_over layout_arrays layout_of rows_read
    row_written i low =
        let (b, r) : Between × Row = (record { from = 0; to = 0 }, record { section = Body; top = 0; bottom = 0 }) in
        let fewer : n < length (between rows) = omega (arith, length-between rows) in
        get_or-entries row_numbers 3 (λ r. refl) (map row_of (between rows)) _ n i r (omega (arith, length-map (between rows) row_of)) low
        ∙ ap (λ (r : Row). get_or (row_numbers r) i 0) (get_d_map row_of (between rows) n r b fewer ∙ ap row_of (between-at rows n b (omega arith)))

    top-written : get_or written.rows (3 * n + 1) 0 ≡ get_or rows n 0
    top-written = row_written 1 (omega arith)

    bottom-written : get_or written.rows (3 * n + 2) 0 ≡ get_or rows (n + 1) 0
    bottom-written = row_written 2 (omega arith)

  width-written : (n : ℕ) → suc n < length columns → get_or written.columns (2 * n + 1) 0 ≡ get_or columns (n + 1) 0 - get_or columns n 0 - 1
  unfolding layout_over layout_arrays layout_of columns_read
  width-written n h =
      let (b, c) : Between × GridTableColumn = (record { from = 0; to = 0 }, record { alignment = None; width = 0 }) in
      let fewer : n < length (between columns) = omega (arith, length-between columns) in
      get_or-entries column_numbers 2 (λ r. refl) (map column_of (between columns)) _ n 1 c (omega (arith, length-map (between columns) column_of)) (omega arith)
      ∙ rw (get_d_map column_of (between columns) n c b fewer, between-at columns n b (omega arith)) where
        column_of : Between → GridTableColumn
        column_of b = record { alignment = alignment_at lines g b.from; width = b.to - b.from - 1 }

  module _ (cover : Cover g rs) where
    cell-rebuilt : {r : Rect} → Memᴰ r rs → rebuilt_cell written (cell_read g rs r).row (cell_read g rs r).column (cell_read g rs r).colspan (cell_read g rs r).rowspan (cell_read g rs r).left ≡ r
    unfolding cell_read index_of
    cell-rebuilt {r} m = λ i. record { top = top i; left = r.left; bottom = bottom i; right = right i } where
      it : ℕ
      it = index_of rows r.top

      ib : ℕ
      ib = index_of rows r.bottom

      il : ℕ
      il = index_of columns r.left

      ir : ℕ
      ir = index_of columns r.right

      pt : Position rows r.top
      pt = rising-position rows (row_lines-rise g rs) (top-line cover m)

      pb : Position rows r.bottom
      pb = rising-position rows (row_lines-rise g rs) (bottom-line cover m)

      pl : Position columns r.left
      pl = rising-position columns (column_lines-rise g rs) (left-line cover m)

      pr : Position columns r.right
      pr = rising-position columns (column_lines-rise g rs) (right-line cover m)

      deep : it < ib
      deep = position-lt rows (row_lines-rise g rs) (top-line cover m) (bottom-line cover m) (cover.first r m).bordered.top_above_bottom

      wide : il < ir
      wide = position-lt columns (column_lines-rise g rs) (left-line cover m) (right-line cover m) (cover.first r m).bordered.left_before_right

      top : get_or written.rows (3 * it + 1) 0 ≡ r.top
      top = top-written it (omega (arith, deep, pb.inside)) ∙ pt.here

      bottom : get_or written.rows (3 * (it + (ib - it) - 1) + 2) 0 ≡ r.bottom
      bottom =
          let last : it + (ib - it) - 1 ≡ ib - 1 = omega (arith, deep) in
          let next : ib - 1 + 1 ≡ ib = omega (arith, deep) in
          rw last (bottom-written (ib - 1) (omega (arith, deep, pb.inside)) ∙ ap (λ (n : ℕ). get_or rows n 0) next ∙ pb.here)

      step : (j : ℕ) → il ≤ j → j < il + (ir - il) → column_across written.columns j + get_or columns j 0 ≡ get_or columns (j + 1) 0
      step j low high =
          let h : suc j < length columns = omega (arith, wide, pr.inside) in
          omega (arith, width-written j h, rising-get_or columns (column_lines-rise g rs) j (j + 1) (omega arith) (omega arith))

      right : r.left + sum (map (column_across written.columns) (range il (ir - il))) ≡ r.right
      right =
          let across = sum-distances (column_across written.columns) (λ j. get_or columns j 0) il (ir - il) step in
          let end : get_or columns (il + (ir - il)) 0 ≡ get_or columns ir 0 = ap (λ (n : ℕ). get_or columns n 0) (omega (arith, wide)) in
          omega (arith, pl.here, pr.here)

    cells-rebuilt : (qs : List Rect) (rest : List ℕ) → ((q : Rect) → Memᴰ q qs → Memᴰ q rs)
        → rebuilt_from written (length qs) (flat_map cell_numbers (map (cell_read g rs) qs) ++ rest) ≡ qs
    unfolding rebuilt_from flat_map
    cells-rebuilt [] rest sub = refl
    cells-rebuilt (q ∷ qs) rest sub = ap₂ ◌∷◌ (cell-rebuilt (sub q (Memᴰ.head refl))) (cells-rebuilt qs rest (λ p m. sub p (Memᴰ.tail m)))

    rects-rebuilt : rebuilt (length rs) written ≡ rs
    unfolding layout_over layout_arrays layout_of
    rects-rebuilt = cells-rebuilt rs _ (λ q m. m)

-- ---- the call
module _ (w : LayoutSpace) (d : FlatDrawing) (out : LayoutArrays) where
  accepts-read : (l : Layout) → layout_accepts w d out ≡ accept l → read_layout (lines_of d) ≡ accept l
  unfolding layout_accepts
  accepts-read l e = handed_out-read (drawing_contradicts d || space_short w) (read_layout (lines_of d)) (λ l. layout_short out (layout_arrays l)) l e

  accepts-afterwards : (l : Layout) → layout_accepts w d out ≡ accept l → layout_afterwards w d out ≡ layout_over (layout_arrays l) out
  unfolding layout_afterwards
  accepts-afterwards l e = afterwards-accepted (layout_accepts w d out) (λ l. layout_over (layout_arrays l) out) out l e

  answer-accepts : (sizes : LayoutSizes) → layout_answer w d out ≡ accept sizes → (l : Layout) × (layout_accepts w d out ≡ accept l) × (length l.cells ≡ sizes.cells)
  unfolding layout_answer layout_sizes
  answer-accepts sizes e =
      let (l, accepts, made) = passed_then (layout_accepts w d out) (λ l. accept (layout_sizes (lines_of d) l)) sizes e in
      let same : layout_sizes (lines_of d) l ≡ sizes = cc in
      (l, accepts, ap (λ (s : LayoutSizes). s.cells) same)

  -- What an accepted layout call leaves in its arrays gives back, rectangle by rectangle, the list that was traced.
  pub layout-rebuilt : (sizes : LayoutSizes) → layout_answer w d out ≡ accept sizes
      → read_rects (lines_of d) ≡ accept (rebuilt sizes.cells (layout_afterwards w d out))
  unfolding layout_of
  layout-rebuilt sizes e =
      let (l, accepts, size) = answer-accepts sizes e in
      let (rs, traced, made) = layout-read (lines_of d) l (accepts-read l accepts) in
      let g = grid_of (lines_of d) in
      let cover = read-cover (read_rects-passed (lines_of d) rs traced) in
      let cells : sizes.cells ≡ length rs = sym size ∙ ap (λ (l : Layout). length l.cells) made ∙ length-map rs (cell_read g rs) in
      let arrays = accepts-afterwards l accepts ∙ ap (λ (l : Layout). layout_over (layout_arrays l) out) made in
      rw (cells, arrays) (traced ∙ ap accept (sym (rects-rebuilt (lines_of d) g rs out cover)))
