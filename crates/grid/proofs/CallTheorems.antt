-- Demand 2 for the calls that read a drawing: layout, table and cell.
-- Others cite `layout-covers`, `table-covers` and `cell-covers` for an accepted call, and for a refused one `layout-six`, `table-six`,
-- `cell-six`, `layout-seven`, `table-seven` and `cell-seven`.
use Prim.Native.Nat.{ℕ, ◌<◌}
use mathlib.Core.Path.{◌≡◌, sym, ap, ◌∙◌}
use mathlib.Core.Bool.{Bool, ◌||◌}
use mathlib.Core.List.{List}
use native.Mathlib.Omega.{arith}
use lib.Dec.{leb}
use lib.ListN.{length, length-map}
use borrow.Author.Tests.{leb-false}
use Rattle.grid.specs.Answer.{Answer, accept, refuse, refuse_if, and_then, over}
use Rattle.grid.specs.Values.{Line, Rect, Layout, Table}
use Rattle.grid.specs.Slots.{grid_of}
use Rattle.grid.specs.Cover.{Cover, ground, OnlyCover, Overfull}
use Rattle.grid.specs.Layout.{cell_read, layout_of}
use Rattle.grid.specs.Cut.{table_of}
use Rattle.grid.specs.Read.{read_rects, read_layout, read_table}
use Rattle.grid.specs.Flat.{FlatDrawing, TableSizes, TableArrays, lines_of, drawing_contradicts, table_sizes, table_arrays, shorter}
use Rattle.grid.specs.LayoutCall.{LayoutSpace, LayoutSizes, LayoutArrays, space_short, layout_sizes, layout_arrays, layout_short, layout_accepts, layout_answer, layout_afterwards}
use Rattle.grid.specs.Rebuilt.{rebuilt}
use Rattle.grid.specs.CutCall.{CutNumbers}
use Rattle.grid.specs.TableCall.{TableSpace, starts_short, table_space_short, table_short, table_over, read_contradicts, table_accepts, table_answer, table_afterwards, cell_cuts, cut_array, cell_accepts, cell_answer, cell_afterwards}
use Rattle.grid.proofs.CoverTheorems.{traced-covers, cover-unique, stopped-no-cover, stopped-seven}
use Rattle.grid.proofs.ReadLaws.{passed-if, passed_then, refuse_if-later, and_then-refused, and_then-accepting, accept-not-refuse, afterwards-accepted, handed_out-read, handed_out-refused, read_rects-passed, layout-read, table-read, read_rects-stopped, read_layout-refused, read_table-refused}
use Rattle.grid.proofs.RebuiltLaws.{layout-rebuilt}

-- ---- what is said of an accepted call, and of 6 and 7, whichever call it is

module _ (lines : List Line) where
  read_rects-covers : (rs : List Rect) → read_rects lines ≡ accept rs → OnlyCover (grid_of lines) rs
  read_rects-covers rs e =
      let g = grid_of lines in
      let (covers, few, ordered) = traced-covers g rs (read_rects-passed lines rs e).traced in
      record { covers = covers; few = few; ordered = ordered; only = λ cs other. cover-unique g rs cs covers other }

  read_rects-six : (p : ℕ) → read_rects lines ≡ refuse 6 p → (cs : List Rect) → Cover (grid_of lines) cs → ⊥
  read_rects-six p e cs = stopped-no-cover (grid_of lines) cs (read_rects-stopped lines 6 p (omega arith) e)

  read_rects-seven : (p : ℕ) → read_rects lines ≡ refuse 7 p → Overfull (grid_of lines) 1024 (ground (grid_of lines))
  read_rects-seven p e = (stopped-seven (grid_of lines)).0 (read_rects-stopped lines 7 p (omega arith) e)

-- ---- layout

module _ (w : LayoutSpace) (d : FlatDrawing) (out : LayoutArrays) where
  -- The rectangles that a reader rebuilds from the arrays of an accepted layout call are the drawing's only cover.
  pub layout-covers : (sizes : LayoutSizes) → layout_answer w d out ≡ accept sizes
      → OnlyCover (grid_of (lines_of d)) (rebuilt sizes.cells (layout_afterwards w d out))
  layout-covers sizes e = read_rects-covers (lines_of d) (rebuilt sizes.cells (layout_afterwards w d out)) (layout-rebuilt w d out sizes e)

  layout-refused : (m p : ℕ) → m < 12 → layout_answer w d out ≡ refuse m p → read_rects (lines_of d) ≡ refuse m p
  unfolding layout_answer layout_accepts
  layout-refused m p few e =
      let accepts = and_then-accepting (layout_accepts w d out) (λ l. layout_sizes (lines_of d) l) m p e in
      let contradicts = drawing_contradicts d || space_short w in
      let short : Layout → Bool = λ l. layout_short out (layout_arrays l) in
      read_layout-refused (lines_of d) m p (handed_out-refused contradicts (read_layout (lines_of d)) short m p few accepts)

  -- The layout call answers 6 only where the drawing has no cover, of any number of rectangles in any order,
  pub layout-six : (p : ℕ) → layout_answer w d out ≡ refuse 6 p → (cs : List Rect) → Cover (grid_of (lines_of d)) cs → ⊥
  layout-six p e = read_rects-six (lines_of d) p (layout-refused 6 p (omega arith) e)

  -- and 7 only where 1,024 rectangles are placed, and a 1,025th is found that stands level.
  pub layout-seven : (p : ℕ) → layout_answer w d out ≡ refuse 7 p → Overfull (grid_of (lines_of d)) 1024 (ground (grid_of (lines_of d)))
  layout-seven p e = read_rects-seven (lines_of d) p (layout-refused 7 p (omega arith) e)

-- the layout of a drawing that these rectangles make
abbrev pub layout_by : FlatDrawing → List Rect → Layout
layout_by d rs = layout_of (lines_of d) (grid_of (lines_of d)) rs

-- ---- table

-- what an accepted table call answers and leaves is made of the drawing's only cover
pub record TableCovered (d : FlatDrawing) (out : TableArrays) (sizes : TableSizes) (after : TableArrays) : Type 0 where
  pub rectangles : List Rect
  pub cover : OnlyCover (grid_of (lines_of d)) rectangles
  pub answered : sizes ≡ table_sizes (table_of (lines_of d) (layout_by d rectangles))
  pub written : after ≡ table_over (table_arrays (table_of (lines_of d) (layout_by d rectangles))) out

module _ (w : LayoutSpace) (s : TableSpace) (d : FlatDrawing) (out : TableArrays) where
  table_accepts-read : (t : Table) → table_accepts w s d out ≡ accept t → read_table (lines_of d) ≡ accept t
  unfolding table_accepts
  table_accepts-read t e = handed_out-read (read_contradicts w (table_space_short s) d) (read_table (lines_of d)) (λ t. table_short out (table_arrays t)) t e

  -- The table that an accepted table call writes is made of the drawing's only cover.
  pub table-covers : (sizes : TableSizes) → table_answer w s d out ≡ accept sizes → TableCovered d out sizes (table_afterwards w s d out)
  unfolding table_answer table_afterwards
  table-covers sizes e =
      let (t, accepts, made) = passed_then (table_accepts w s d out) (λ t. accept (table_sizes t)) sizes e in
      let (rs, traced, table) = table-read (lines_of d) t (table_accepts-read t accepts) in
      let same : table_sizes t ≡ sizes = cc in
      let over-out : Table → TableArrays = λ t. table_over (table_arrays t) out in
      record {
        rectangles = rs;
        cover = read_rects-covers (lines_of d) rs traced;
        answered = sym same ∙ ap table_sizes table;
        written = afterwards-accepted (table_accepts w s d out) over-out out t accepts ∙ ap over-out table;
      }

  table-refused : (m p : ℕ) → m < 12 → table_answer w s d out ≡ refuse m p → read_rects (lines_of d) ≡ refuse m p
  unfolding table_answer table_accepts
  table-refused m p few e =
      let accepts = and_then-accepting (table_accepts w s d out) (λ t. table_sizes t) m p e in
      let contradicts = read_contradicts w (table_space_short s) d in
      let short : Table → Bool = λ t. table_short out (table_arrays t) in
      read_table-refused (lines_of d) m p (handed_out-refused contradicts (read_table (lines_of d)) short m p few accepts)

  -- The table call answers 6 only where the drawing has no cover,
  pub table-six : (p : ℕ) → table_answer w s d out ≡ refuse 6 p → (cs : List Rect) → Cover (grid_of (lines_of d)) cs → ⊥
  table-six p e = read_rects-six (lines_of d) p (table-refused 6 p (omega arith) e)

  -- and 7 only where a 1,025th rectangle is found that stands level.
  pub table-seven : (p : ℕ) → table_answer w s d out ≡ refuse 7 p → Overfull (grid_of (lines_of d)) 1024 (ground (grid_of (lines_of d)))
  table-seven p e = read_rects-seven (lines_of d) p (table-refused 7 p (omega arith) e)

-- ---- cell

-- what an accepted call for cell k answers and leaves are the cuts of cell k of the drawing's only cover
pub record CellCovered (d : FlatDrawing) (k : ℕ) (out : List ℕ) (lines : ℕ) (after : List ℕ) : Type 0 where
  pub rectangles : List Rect
  pub cover : OnlyCover (grid_of (lines_of d)) rectangles
  pub inside : k < length rectangles
  pub answered : lines ≡ length (cell_cuts (lines_of d) (layout_by d rectangles) k)
  pub written : after ≡ over (cut_array (cell_cuts (lines_of d) (layout_by d rectangles) k)) out

module _ (w : LayoutSpace) (starts : ℕ) (d : FlatDrawing) (k : ℕ) (out : List ℕ) where
  abbrev cuts_of : Layout → List CutNumbers
  cuts_of l = cell_cuts (lines_of d) l k

  abbrev cell_room : Layout → Answer (List CutNumbers)
  cell_room l = refuse_if (leb (length l.cells) k) 13 (refuse_if (shorter out (cut_array (cuts_of l))) 12 (accept (cuts_of l)))

  cell_accepts-read : (cuts : List CutNumbers) → cell_accepts w starts d k out ≡ accept cuts
      → (l : Layout) × (read_layout (lines_of d) ≡ accept l) × (k < length l.cells) × (cuts_of l ≡ cuts)
  unfolding cell_accepts
  cell_accepts-read cuts e =
      let checked = (passed-if (read_contradicts w (starts_short starts) d) 13 (and_then (read_layout (lines_of d)) cell_room) cuts e).1 in
      let (l, read, asked) = passed_then (read_layout (lines_of d)) cell_room cuts checked in
      let (inside, room) = passed-if (leb (length l.cells) k) 13 (refuse_if (shorter out (cut_array (cuts_of l))) 12 (accept (cuts_of l))) cuts asked in
      let made = (passed-if (shorter out (cut_array (cuts_of l))) 12 (accept (cuts_of l)) cuts room).1 in
      (l, read, leb-false (length l.cells) k inside, cc)

  -- The cut lines that an accepted cell call writes are those of cell k of the drawing's only cover.
  pub cell-covers : (lines : ℕ) → cell_answer w starts d k out ≡ accept lines → CellCovered d k out lines (cell_afterwards w starts d k out)
  unfolding cell_answer cell_afterwards layout_of
  cell-covers lines e =
      let (cuts, accepts, made) = passed_then (cell_accepts w starts d k out) (λ (cuts : List CutNumbers). accept (length cuts)) lines e in
      let (l, read, inside, cutting) = cell_accepts-read cuts accepts in
      let (rs, traced, layout) = layout-read (lines_of d) l read in
      let count : length cuts ≡ lines = cc in
      let same : cuts ≡ cuts_of (layout_by d rs) = sym cutting ∙ ap cuts_of layout in
      let over-out : List CutNumbers → List ℕ = λ cuts. over (cut_array cuts) out in
      record {
        rectangles = rs;
        cover = read_rects-covers (lines_of d) rs traced;
        inside = omega (arith, ap (λ (l : Layout). length l.cells) layout, length-map rs (cell_read (grid_of (lines_of d)) rs));
        answered = sym count ∙ ap (λ (l : List CutNumbers). length l) same;
        written = afterwards-accepted (cell_accepts w starts d k out) over-out out cuts accepts ∙ ap over-out same;
      }

  cell-refused : (m p : ℕ) → m < 12 → cell_answer w starts d k out ≡ refuse m p → read_rects (lines_of d) ≡ refuse m p
  unfolding cell_answer cell_accepts
  cell-refused m p few e =
      let lines = lines_of d in
      let accepts = and_then-accepting (cell_accepts w starts d k out) (λ (cuts : List CutNumbers). length cuts) m p e in
      let reads = refuse_if-later (read_contradicts w (starts_short starts) d) 13 (and_then (read_layout lines) cell_room) m p (λ h. omega arith) accepts in
      read_layout-refused lines m p (and_then-refused (read_layout lines) cell_room m p room reads) where
        room : (l : Layout) → cell_room l ≡ refuse m p → ⊥
        room l f =
            let twelve = refuse_if (shorter out (cut_array (cuts_of l))) 12 (accept (cuts_of l)) in
            let asked = refuse_if-later (leb (length l.cells) k) 13 twelve m p (λ h. omega (arith, few)) f in
            accept-not-refuse (cuts_of l) m p (refuse_if-later (shorter out (cut_array (cuts_of l))) 12 (accept (cuts_of l)) m p (λ h. omega (arith, few)) asked)

  -- The cell call answers 6 only where the drawing has no cover,
  pub cell-six : (p : ℕ) → cell_answer w starts d k out ≡ refuse 6 p → (cs : List Rect) → Cover (grid_of (lines_of d)) cs → ⊥
  cell-six p e = read_rects-six (lines_of d) p (cell-refused 6 p (omega arith) e)

  -- and 7 only where a 1,025th rectangle is found that stands level.
  pub cell-seven : (p : ℕ) → cell_answer w starts d k out ≡ refuse 7 p → Overfull (grid_of (lines_of d)) 1024 (ground (grid_of (lines_of d)))
  cell-seven p e = read_rects-seven (lines_of d) p (cell-refused 7 p (omega arith) e)
