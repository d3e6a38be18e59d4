-- The layout call at each of its returns, from what reading leaves.
use Prim.Native.Nat.{ℕ}
use mathlib.Core.Path.{◌≡◌, sym, ◌∙◌}
use mathlib.Core.List.{List}
use Rattle.grid.specs.Answer.{Answer, accept, refuse}
use Rattle.grid.specs.Values.{Rect}
use Rattle.grid.specs.Flat.{FlatDrawing, lines_of}
use Rattle.grid.specs.LayoutCall.{LayoutSpace, LayoutSizes, LayoutArrays, layout_answer, layout_afterwards}
use Rattle.representation.specs.LayoutParts.{rects_answer, finish_sizes, finish_arrays}
use Rattle.representation.proofs.LayoutPartsLaws.{refused-layout, finished-layout}

module _ (w : LayoutSpace) (d : FlatDrawing) (out : LayoutArrays) where
  pub layout-refused : {number place : ℕ} → refuse number place ≡ rects_answer w d → (refuse number place ≡ layout_answer w d out) × (out ≡ layout_afterwards w d out)
  layout-refused refused = refused-layout w d out (sym refused)

  pub layout-finished : (rs : List Rect) → accept rs ≡ rects_answer w d → (answer : Answer LayoutSizes) (after : LayoutArrays)
      → (answer ≡ finish_sizes (lines_of d) rs out) × (after ≡ finish_arrays (lines_of d) rs out)
      → (answer ≡ layout_answer w d out) × (after ≡ layout_afterwards w d out)
  layout-finished rs accepted answer after (answered, written) =
      let last = finished-layout w d out (sym accepted) in
      (answered ∙ last.0, written ∙ last.1)
