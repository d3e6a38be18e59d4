-- The search for the first cell that splits.
use Prim.Native.Nat.{ℕ, ◌+◌, ◌≤◌, ◌<◌}
use mathlib.Core.Path.{◌≡◌, sym, ap, ◌∙◌}
use mathlib.Core.Bool.{Bool, true, false}
use mathlib.Core.Logic.{⊎_elim}
use mathlib.Core.Option.{none, some}
use mathlib.Core.List.{List}
use native.Mathlib.Omega.{arith}
use native.Mathlib.Nat.{eq-or-lt_of_le}
use Rattle.seq.proofs.Gathered.{first-at, first-nowhere}
use Rattle.grid.specs.Slots.{grid_of}
use Rattle.representation.specs.Arrays.{rect_in}
use Rattle.drawing.specs.Plain.{Box, Canvas, canvas_lines}
use Rattle.drawing.specs.Redraw.{splits, split_cell}
use Rattle.cm.specs.Board.{Board, no_box, CanvasReady}
use Rattle.cm.proofs.lines.WalkLineLaws.{boxes-count, box-frame}

-- on every canvas that the arrays hold, no cell before k splits
abbrev pub Unsplit : ℕ → ℕ → Board → List ℕ → ℕ → ℕ → Type 0
Unsplit n width b canvas origin k =
    (v : Canvas) → CanvasReady v n width b canvas → (j : ℕ) → j < k → splits (grid_of (canvas_lines origin v)) (rect_in b.rects j) ≡ false

pub unsplit-none : (n width : ℕ) (b : Board) (canvas : List ℕ) (origin : ℕ) → Unsplit n width b canvas origin 0
unsplit-none n width b canvas origin v R j u = absurd (omega arith)

module _ {n width : ℕ} {b : Board} {canvas : List ℕ} (origin k : ℕ) (s : Unsplit n width b canvas origin k) where
  module _ (t : Bool) (told : (v : Canvas) → CanvasReady v n width b canvas → t ≡ splits (grid_of (canvas_lines origin v)) (rect_in b.rects k)) where
    pub unsplit-next : t ≡ false → Unsplit n width b canvas origin (k + 1)
    unsplit-next e v R j u =
        ⊎_elim (λ (q : j ≡ k). ap (λ (i : ℕ). splits (grid_of (canvas_lines origin v)) (rect_in b.rects i)) q ∙ sym (told v R) ∙ e) (λ (q : j < k). s v R j q)
        (eq-or-lt_of_le (omega arith))

    pub split-here : t ≡ true → k < n → (v : Canvas) → CanvasReady v n width b canvas → some k ≡ split_cell v (grid_of (canvas_lines origin v))
    unfolding split_cell
    split-here e u v R =
        let g = grid_of (canvas_lines origin v) in
        let few = boxes-count R.boxed in
        sym
        (first-at (λ (b : Box). splits g b.frame) v.boxes no_box k (omega arith) (ap (splits g) (box-frame R.boxed k u) ∙ sym (told v R) ∙ e)
        (λ j w. ap (splits g) (box-frame R.boxed j (omega arith)) ∙ s v R j w))

  pub split-nowhere : n ≤ k → (v : Canvas) → CanvasReady v n width b canvas → none ≡ split_cell v (grid_of (canvas_lines origin v))
  unfolding split_cell
  split-nowhere u v R =
      let g = grid_of (canvas_lines origin v) in
      let few = boxes-count R.boxed in
      sym (first-nowhere (λ (b : Box). splits g b.frame) v.boxes no_box (λ j w. ap (splits g) (box-frame R.boxed j (omega arith)) ∙ s v R j (omega arith)))
