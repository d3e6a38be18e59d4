-- The table and cell calls after reading.
use Prim.Native.Nat.{ℕ, ◌≤◌, ◌<◌}
use mathlib.Core.Path.{◌≡◌, refl}
use mathlib.Core.Bool.{Bool, true, false, ◌||◌}
use mathlib.Core.List.{List}
use lib.Dec.{leb}
use lib.ListN.{length, length-map}
use borrow.Author.Tests.{le-leb, lt-leb}
use Rattle.seq.proofs.Tests.{or_right}
use Rattle.grid.specs.Answer.{Answer, accept, refuse, refuse_if, and_then}
use Rattle.grid.specs.Values.{Rect, Layout}
use Rattle.grid.specs.Slots.{grid_of}
use Rattle.grid.specs.Layout.{cell_read, layout_of}
use Rattle.grid.specs.Cut.{table_of}
use Rattle.grid.specs.Read.{read_rects, read_layout, read_table}
use Rattle.grid.specs.Flat.{FlatDrawing, TableArrays, drawing_contradicts, lines_of, table_arrays, shorter}
use Rattle.grid.specs.LayoutCall.{LayoutSpace, space_short}
use Rattle.representation.specs.LayoutParts.{rects_answer}
use Rattle.grid.specs.CutCall.{CutNumbers}
use Rattle.grid.specs.TableCall.{TableSpace, starts_short, table_space_short, table_short, table_accepts, table_answer, table_afterwards, cell_cuts, cut_array, cell_accepts, cell_answer, cell_afterwards}
use Rattle.representation.specs.TableParts.{table_from, table_answer_of, table_sizes_of, table_arrays_of, cuts_answer_of, cuts_count_of, cuts_array_of}

-- 13 comes first, whichever array it is of
short-first : {A : Type 0} (c s t : Bool) (next : Answer A) → t ≡ true → refuse_if (c || s || t) 13 next ≡ refuse 13 0
short-first c s t next e = rw (or_right (c || s) e)

-- the checks of 13 together, and reading in its parts
read_first : {A : Type 0} (c s : Bool) (a : Answer (List Rect)) (f : List Rect → Answer A) → refuse_if (c || s || false) 13 (and_then a f) ≡ and_then (refuse_if (c || s) 13 a) f
read_first true s a f = refl
read_first false true a f = refl
read_first false false a f = refl

module _ (w : LayoutSpace) (space : TableSpace) (d : FlatDrawing) (out : TableArrays) where
  table-read : and_then (read_table (lines_of d)) (λ t. refuse_if (table_short out (table_arrays t)) 12 (accept t)) ≡ and_then (read_rects (lines_of d)) (λ rs. table_answer_of (lines_of d) rs out)
  unfolding read_table read_layout table_answer_of
  table-read = go (read_rects (lines_of d)) where
    go : (a : Answer (List Rect))
        → and_then (and_then (and_then a (λ rs. accept (layout_of (lines_of d) (grid_of (lines_of d)) rs))) (λ (l : Layout). accept (table_of (lines_of d) l))) (λ t. refuse_if (table_short out (table_arrays t)) 12 (accept t))
        ≡ and_then a (λ rs. refuse_if (table_short out (table_arrays (table_from (lines_of d) rs))) 12 (accept (table_from (lines_of d) rs)))
    go (accept rs) = refl
    go (refuse number place) = refl

  no-space : table_space_short space ≡ true → table_accepts w space d out ≡ refuse 13 0
  unfolding table_accepts
  no-space short =
      short-first (drawing_contradicts d) (space_short w) (table_space_short space) (and_then (read_table (lines_of d)) (λ t. refuse_if (table_short out (table_arrays t)) 12 (accept t))) short

  pub short-table : table_space_short space ≡ true → (refuse 13 0 ≡ table_answer w space d out) × (out ≡ table_afterwards w space d out)
  unfolding table_answer table_afterwards
  short-table short = (rw (no-space short), rw (no-space short))

  module _ (enough : table_space_short space ≡ false) where
    after-rects : table_accepts w space d out ≡ and_then (rects_answer w d) (λ rs. table_answer_of (lines_of d) rs out)
    unfolding table_accepts rects_answer
    after-rects = rw (enough, table-read) (read_first (drawing_contradicts d) (space_short w) (read_rects (lines_of d)) (λ rs. table_answer_of (lines_of d) rs out))

    pub refused-table : {number place : ℕ} → rects_answer w d ≡ refuse number place → (refuse number place ≡ table_answer w space d out) × (out ≡ table_afterwards w space d out)
    unfolding table_answer table_afterwards
    refused-table e = (rw (after-rects, e), rw (after-rects, e))

    pub finished-table : {rs : List Rect} → rects_answer w d ≡ accept rs → (table_sizes_of (lines_of d) rs out ≡ table_answer w space d out) × (table_arrays_of (lines_of d) rs out ≡ table_afterwards w space d out)
    unfolding table_answer table_afterwards table_sizes_of table_arrays_of
    finished-table e = (rw (after-rects, e), rw (after-rects, e))

module _ (w : LayoutSpace) (starts : ℕ) (d : FlatDrawing) (k : ℕ) (out : List ℕ) where
  -- the layout and the cut lines, with these rectangles
  abbrev layout_from : List Rect → Layout
  layout_from rs = layout_of (lines_of d) (grid_of (lines_of d)) rs

  abbrev pub cuts_from : List Rect → List CutNumbers
  cuts_from rs = cell_cuts (lines_of d) (layout_from rs) k

  cells_count : (rs : List Rect) → length (layout_from rs).cells ≡ length rs
  unfolding layout_of
  cells_count rs = length-map rs (cell_read (grid_of (lines_of d)) rs)

  cell-read : and_then (read_layout (lines_of d)) (λ (l : Layout). refuse_if (leb (length l.cells) k) 13 (refuse_if (shorter out (cut_array (cell_cuts (lines_of d) l k))) 12 (accept (cell_cuts (lines_of d) l k))))
      ≡ and_then (read_rects (lines_of d)) (λ rs. refuse_if (leb (length (layout_from rs).cells) k) 13 (cuts_answer_of (cuts_from rs) out))
  unfolding read_layout cuts_answer_of
  cell-read = go (read_rects (lines_of d)) where
    go : (a : Answer (List Rect))
        → and_then (and_then a (λ rs. accept (layout_from rs))) (λ (l : Layout). refuse_if (leb (length l.cells) k) 13 (refuse_if (shorter out (cut_array (cell_cuts (lines_of d) l k))) 12 (accept (cell_cuts (lines_of d) l k))))
        ≡ and_then a (λ rs. refuse_if (leb (length (layout_from rs).cells) k) 13 (refuse_if (shorter out (cut_array (cuts_from rs))) 12 (accept (cuts_from rs))))
    go (accept rs) = refl
    go (refuse number place) = refl

  no-starts : starts_short starts ≡ true → cell_accepts w starts d k out ≡ refuse 13 0
  unfolding cell_accepts
  no-starts short =
      short-first (drawing_contradicts d) (space_short w) (starts_short starts) (and_then (read_layout (lines_of d)) (λ (l : Layout). refuse_if (leb (length l.cells) k) 13 (refuse_if (shorter out (cut_array (cell_cuts (lines_of d) l k))) 12 (accept (cell_cuts (lines_of d) l k))))) short

  pub short-cell : starts_short starts ≡ true → (refuse 13 0 ≡ cell_answer w starts d k out) × (out ≡ cell_afterwards w starts d k out)
  unfolding cell_answer cell_afterwards
  short-cell short = (rw (no-starts short), rw (no-starts short))

  module _ (enough : starts_short starts ≡ false) where
    cell-after-rects : cell_accepts w starts d k out ≡ and_then (rects_answer w d) (λ rs. refuse_if (leb (length (layout_from rs).cells) k) 13 (cuts_answer_of (cuts_from rs) out))
    unfolding cell_accepts rects_answer
    cell-after-rects =
        rw (enough, cell-read)
        (read_first (drawing_contradicts d) (space_short w) (read_rects (lines_of d)) (λ rs. refuse_if (leb (length (layout_from rs).cells) k) 13 (cuts_answer_of (cuts_from rs) out)))

    pub refused-cell : {number place : ℕ} → rects_answer w d ≡ refuse number place → (refuse number place ≡ cell_answer w starts d k out) × (out ≡ cell_afterwards w starts d k out)
    unfolding cell_answer cell_afterwards
    refused-cell e = (rw (cell-after-rects, e), rw (cell-after-rects, e))

    module _ {rs : List Rect} (e : rects_answer w d ≡ accept rs) where
      cell-known : {t : Bool} → leb (length rs) k ≡ t → cell_accepts w starts d k out ≡ refuse_if t 13 (cuts_answer_of (cuts_from rs) out)
      cell-known {t} test =
          let known : leb (length (layout_from rs).cells) k ≡ t = rw (cells_count rs) test in
          rw (cell-after-rects, e, known)

      pub past_the_end : length rs ≤ k → (refuse 13 0 ≡ cell_answer w starts d k out) × (out ≡ cell_afterwards w starts d k out)
      unfolding cell_answer cell_afterwards
      past_the_end past = (rw (cell-known (le-leb (length rs) k past)), rw (cell-known (le-leb (length rs) k past)))

      pub finished-cell : k < length rs → (cuts_count_of (cuts_from rs) out ≡ cell_answer w starts d k out) × (cuts_array_of (cuts_from rs) out ≡ cell_afterwards w starts d k out)
      unfolding cell_answer cell_afterwards cuts_count_of cuts_array_of
      finished-cell before = (rw (cell-known (lt-leb (length rs) k before)), rw (cell-known (lt-leb (length rs) k before)))
