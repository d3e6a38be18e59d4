-- The table call at each of its returns, from what reading leaves.
use Prim.Native.Nat.{ℕ, ◌≤◌, ◌<◌}
use mathlib.Core.Path.{◌≡◌, sym, ◌∙◌}
use mathlib.Core.Bool.{true, false, or-true}
use mathlib.Core.Logic.{◌⊎◌, inl, inr}
use mathlib.Core.List.{List}
use lib.ListN.{length}
use borrow.Author.Tests.{lt-ltb, le-ltb}
use Rattle.grid.specs.Limits.{max_lines, max_cells}
use Rattle.grid.specs.Answer.{Answer, accept, refuse}
use Rattle.grid.specs.Values.{Rect}
use Rattle.grid.specs.Flat.{FlatDrawing, TableSizes, TableArrays, lines_of}
use Rattle.grid.specs.LayoutCall.{LayoutSpace}
use Rattle.representation.specs.LayoutParts.{rects_answer}
use Rattle.grid.specs.TableCall.{TableSpace, starts_short, table_space_short, table_answer, table_afterwards, table_spaces}
use Rattle.representation.specs.TableParts.{table_sizes_of, table_arrays_of}
use Rattle.representation.proofs.TablePartsLaws.{short-table, refused-table, finished-table}

-- ---- the returns of the call
module _ (w : LayoutSpace) (starts counts : List ℕ) (d : FlatDrawing) (out : TableArrays) where
  abbrev more : TableSpace
  more = table_spaces starts counts

  short-here : table_space_short more ≡ true → (refuse 13 0 ≡ table_answer w more d out) × (out ≡ table_afterwards w more d out)
  short-here short = short-table w more d out short

  pub table-no-space : (length starts < max_lines) ⊎ ((max_lines ≤ length starts) × (length counts < max_cells))
      → (refuse 13 0 ≡ table_answer w more d out) × (out ≡ table_afterwards w more d out)
  unfolding table_space_short starts_short
  table-no-space (inl few) = short-here (rw (lt-ltb (length starts) max_lines few))
  table-no-space (inr (many, few)) = short-here (rw (lt-ltb (length counts) max_cells few, or-true))

  module _ (many-starts : max_lines ≤ length starts) (many-counts : max_cells ≤ length counts) where
    enough : table_space_short more ≡ false
    unfolding table_space_short starts_short
    enough = rw (le-ltb (length starts) max_lines many-starts, le-ltb (length counts) max_cells many-counts)

    pub table-refused : {number place : ℕ} → refuse number place ≡ rects_answer w d → (refuse number place ≡ table_answer w more d out) × (out ≡ table_afterwards w more d out)
    table-refused refused = refused-table w more d out enough (sym refused)

    pub table-finished : (rs : List Rect) → accept rs ≡ rects_answer w d → (answer : Answer TableSizes) (after : TableArrays)
        → answer ≡ table_sizes_of (lines_of d) rs out → after ≡ table_arrays_of (lines_of d) rs out
        → (answer ≡ table_answer w more d out) × (after ≡ table_afterwards w more d out)
    table-finished rs accepted answer after answered written =
        let last = finished-table w more d out enough (sym accepted) in
        (answered ∙ last.0, written ∙ last.1)
