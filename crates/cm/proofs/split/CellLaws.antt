-- Whether a cell splits, from its borders as the code reads them.
use Prim.Native.Nat.{ℕ, ◌+◌, ◌-◌, ◌≤◌, ◌<◌}
use mathlib.Core.Path.{◌≡◌, sym, ap, subst, ◌∙◌}
use mathlib.Core.Bool.{Bool, true, false, not}
use mathlib.Core.List.{List}
use native.Mathlib.Omega.{arith}
use lib.ListN.{length, get_or, replicate}
use borrow.Author.Tests.{not-true}
use Rattle.grid.specs.Values.{Rect}
use Rattle.grid.specs.Slots.{grid_of}
use Rattle.grid.specs.LayoutCall.{slot_space}
use Rattle.representation.specs.Lent.{rect_of}
use Rattle.representation.specs.declared.rect.Rect.{Rect as Held}
use Rattle.representation.specs.Arrays.{rect_in}
use Rattle.drawing.specs.Plain.{Box, Canvas, canvas_lines}
use Rattle.drawing.specs.Redraw.{splits}
use Rattle.cm.specs.Board.{no_box, lines_at}
use Rattle.cm.specs.Bears.{LettersOf, Bears}
use Rattle.cm.specs.declared.board.Board.{Board}
use Rattle.cm.specs.Hits.{Hittable, HitLines, split_column}
use Rattle.cm.proofs.lines.WalkLineLaws.{boxes-count, box-frame, box-mem}
use Rattle.cm.proofs.split.HitLinesLaws.{zeros-at}
use Rattle.cm.proofs.split.SplitLaws.{splits-hit, splits-short, splits-apart, box-hittable}

module _ (d : Board) (ready : (v : Canvas) × Bears d v) (k : ℕ) (few : k < d.cells) where
  pub height-room : k < length d.lettering.heights.now
  height-room = let (v, R) = ready in omega (arith, boxes-count R.boxed, R.boxed.lettered.height_room)

  module _ (r : Held) (is : rect_of r ≡ rect_in d.rects.now k) where
    abbrev lines : ℕ
    lines = r.bottom - r.top - 1

    frame : (v : Canvas) → Bears d v → (get_or v.boxes k no_box).frame ≡ rect_of r
    frame v R = box-frame R.boxed k few ∙ sym is

    sized : (r.top + 1 < r.bottom) × (r.bottom < 128) × (r.left.0 + 1 < r.right.0) × (r.right.0 < 128)
    sized =
        let (v, R) = ready in
        let f = frame v R in
        let B = R.boxed in
        let s = B.lined.written.tiled.sized (get_or v.boxes k no_box) (box-mem B k few) in
        let t = ap (λ (r : Rect). r.top) f in
        let l = ap (λ (r : Rect). r.left) f in
        let b = ap (λ (r : Rect). r.bottom) f in
        let h = ap (λ (r : Rect). r.right) f in
        (omega (arith, s.tall), omega (arith, s.low, B.low), omega (arith, s.broad), omega (arith, s.near, B.narrow))

    pub lines-some : 1 ≤ r.bottom - r.top
    lines-some = omega (arith, sized)

    pub top_above : r.top ≤ r.bottom
    top_above = omega (arith, sized)

    pub column-low : (r.top < 128) × (r.bottom < 128) × (r.left.0 < r.right.0) × (r.right.0 < 128)
    column-low = (omega (arith, sized), omega (arith, sized), omega (arith, sized), omega (arith, sized))

    pub canvas-room : slot_space ≤ length d.canvas.now
    canvas-room = let (v, R) = ready in R.canvas_room

    pub lines-low : (d.origin.0 + r.left.0 + 2 ≤ 1024) × (lines < 128)
    lines-low = let near = d.near in (omega (arith, sized), omega (arith, sized))

    -- the lines of the cell, on every list of boxes that the arrays hold
    abbrev Hits : List ℕ → Type 0
    Hits hits = (bs : List Box) → LettersOf d.lettering bs → k < length bs → HitLines (d.origin.0 + r.left.0 + 2) (lines_at bs k) (r.left.0 + 2) lines hits

    pub lines-asked : (bs : List Box) × LettersOf d.lettering bs × (k < length bs) × Hittable (d.origin.0 + r.left.0 + 2) (r.left.0 + 2) (lines_at bs k)
    lines-asked =
        let (v, R) = ready in
        (v.boxes, R.boxed.lettered, omega (arith, boxes-count R.boxed), rw (ap (λ (r : Rect). r.left) (frame v R)) at (box-hittable R d.origin.0 k few d.near))

    pub hits-room : (hits : List ℕ) → Hits hits → length hits ≡ 128
    hits-room hits told = let (v, R) = ready in (told v.boxes R.boxed.lettered (omega (arith, boxes-count R.boxed))).room

    module _ (v : Canvas) (R : Bears d v) where
      pub cell-short : get_or d.lettering.heights.now k 0 < lines → false ≡ splits (grid_of (canvas_lines d.origin.0 v)) (rect_in d.rects.now k)
      cell-short w =
          let tall = R.boxed.lettered.tall k (omega (arith, boxes-count R.boxed)) in
          let f = frame v R in
          rw (box-frame R.boxed k few) at
          (splits-short R d.origin.0 k few (omega (arith, ap (λ (r : Rect). r.top) f, ap (λ (r : Rect). r.bottom) f)))

      pub cell_apart : (t : Bool) → t ≡ split_column d.canvas.now (rect_of r) 0 (replicate 128 0) → not t ≡ true
          → false ≡ splits (grid_of (canvas_lines d.origin.0 v)) (rect_in d.rects.now k)
      cell_apart t e w =
          let f = frame v R in
          rw (box-frame R.boxed k few) at (splits-apart R d.origin.0 k few (replicate 128 0) (zeros-at 128) (rw f (sym e ∙ not-true t w)))

      pub cell-hit : (hits : List ℕ) → Hits hits → split_column d.canvas.now (rect_of r) lines hits ≡ splits (grid_of (canvas_lines d.origin.0 v)) (rect_in d.rects.now k)
      cell-hit hits told =
          let f = frame v R in
          let hit = told v.boxes R.boxed.lettered (omega (arith, boxes-count R.boxed)) in
          let texts = lines_at v.boxes k in
          let h = subst (λ (q : Rect). HitLines (d.origin.0 + q.left + 2) texts (q.left + 2) (q.bottom - q.top - 1) hits) (sym f) hit in
          subst (λ (q : Rect). split_column d.canvas.now q (q.bottom - q.top - 1) hits ≡ splits (grid_of (canvas_lines d.origin.0 v)) q) f (splits-hit R d.origin.0 k few hits h)
          ∙ ap (splits (grid_of (canvas_lines d.origin.0 v))) is
