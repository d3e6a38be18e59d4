-- What reading answers by its parts, and the layout call after it.
use Prim.Native.Nat.{ℕ}
use mathlib.Core.Path.{◌≡◌, refl}
use mathlib.Core.Bool.{Bool, true, false, ◌||◌}
use mathlib.Core.List.{List}
use mathlib.Core.Option.{Option, none, some}
use lib.ListN.{length}
use lib.Dec.{ltb}
use Rattle.seq.specs.Lists.{is_empty}
use Rattle.grid.specs.Answer.{Answer, accept, refuse, refuse_if, refuse_at, and_then}
use Rattle.grid.specs.Limits.{max_width}
use Rattle.grid.specs.Values.{Rect}
use Rattle.grid.specs.Slots.{Grid, grid_of, trimmed_at}
use Rattle.grid.specs.Trace.{covered, trace}
use Rattle.grid.specs.Layout.{layout_of}
use Rattle.grid.specs.Read.{drawing_too_large, outside_set, no_rule, wrong_width, rectangles, read_grid, read_rects, read_layout}
use Rattle.grid.specs.Flat.{FlatDrawing, drawing_contradicts, lines_of}
use Rattle.grid.specs.LayoutCall.{LayoutSpace, LayoutArrays, space_short, layout_arrays, layout_short, layout_accepts, layout_answer, layout_afterwards}
use Rattle.grid.proofs.ReadLaws.{passed-at, traced-rectangles}
use Rattle.representation.specs.LayoutParts.{rects_answer, width_answer, grid_answer, finish_answer, finish_sizes, finish_arrays}

-- a chain of checks, taken in parts
in_parts : (c s e l : Bool) (o : Option ℕ) (q b : Bool) (a : Answer (List Rect)) (width : ℕ)
    → refuse_if (c || s) 13 (refuse_if e 1 (refuse_if l 2 (refuse_at o 3 (refuse_if q 4 (refuse_if b 2 a)))))
    ≡ refuse_if s 13 (and_then (refuse_if c 13 (refuse_if e 1 (refuse_if l 2 (refuse_at o 3 (refuse_if q 4 (refuse_if b 2 (accept width))))))) (λ n. a))
in_parts true true e l o q b a width = refl
in_parts true false e l o q b a width = refl
in_parts false true e l o q b a width = refl
in_parts false false true l o q b a width = refl
in_parts false false false true o q b a width = refl
in_parts false false false false (some y) q b a width = refl
in_parts false false false false none true b a width = refl
in_parts false false false false none false true a width = refl
in_parts false false false false none false false a width = refl

module _ (w : LayoutSpace) (d : FlatDrawing) where
  rects-in-parts : rects_answer w d ≡ refuse_if (space_short w) 13 (and_then (width_answer d) (λ n. grid_answer (grid_of (lines_of d))))
  unfolding rects_answer read_rects read_grid width_answer grid_answer grid_of
  rects-in-parts =
      let lines = lines_of d in
      in_parts (drawing_contradicts d) (space_short w) (is_empty lines) (drawing_too_large lines) (outside_set lines) (no_rule lines) (ltb max_width (length (trimmed_at lines 0)))
      (refuse_at (wrong_width (grid_of lines)) 5 (rectangles (trace (grid_of lines)))) (length (trimmed_at lines 0))

  pub short-rects : space_short w ≡ true → rects_answer w d ≡ refuse 13 0
  short-rects short = rw (rects-in-parts, short)

  module _ (enough : space_short w ≡ false) where
    pub unwide-rects : {number place : ℕ} → refuse number place ≡ width_answer d → rects_answer w d ≡ refuse number place
    unwide-rects e = rw (rects-in-parts, enough, ← e)

    pub wide-rects : {n : ℕ} → accept n ≡ width_answer d → rects_answer w d ≡ grid_answer (grid_of (lines_of d))
    wide-rects e = rw (rects-in-parts, enough, ← e)

  module _ (out : LayoutArrays) where
    after-rects : layout_accepts w d out ≡ and_then (rects_answer w d) (λ rs. finish_answer (lines_of d) rs out)
    unfolding layout_accepts read_layout rects_answer finish_answer
    after-rects = go (drawing_contradicts d || space_short w) (read_rects (lines_of d)) where
      go : (b : Bool) (a : Answer (List Rect)) → refuse_if b 13 (and_then (and_then a (λ rs. accept (layout_of (lines_of d) (grid_of (lines_of d)) rs))) (λ l. refuse_if (layout_short out (layout_arrays l)) 12 (accept l)))
          ≡ and_then (refuse_if b 13 a) (λ rs. refuse_if (layout_short out (layout_arrays (layout_of (lines_of d) (grid_of (lines_of d)) rs))) 12 (accept (layout_of (lines_of d) (grid_of (lines_of d)) rs)))
      go true a = refl
      go false (accept rs) = refl
      go false (refuse number place) = refl

    pub refused-layout : {number place : ℕ} → rects_answer w d ≡ refuse number place → (refuse number place ≡ layout_answer w d out) × (out ≡ layout_afterwards w d out)
    unfolding layout_answer layout_afterwards
    refused-layout e = (rw (after-rects, e), rw (after-rects, e))

    pub finished-layout : {rs : List Rect} → rects_answer w d ≡ accept rs → (finish_sizes (lines_of d) rs out ≡ layout_answer w d out) × (finish_arrays (lines_of d) rs out ≡ layout_afterwards w d out)
    unfolding layout_answer layout_afterwards finish_sizes finish_arrays
    finished-layout e = (rw (after-rects, e), rw (after-rects, e))

-- what the slots and tracing have passed
pub grid-accepted : (g : Grid) (rs : List Rect) → grid_answer g ≡ accept rs → (wrong_width g ≡ none) × (trace g ≡ covered rs)
unfolding grid_answer
grid-accepted g rs e =
    let p = passed-at (wrong_width g) 5 (rectangles (trace g)) rs e in
    (p.0, traced-rectangles (trace g) rs p.1)
