-- The places of redraw's refusals 10 and 11: `redraw-place-ten`, `redraw-place-eleven`, and back `place-redraw-ten`, `place-redraw-eleven`.
use Prim.Native.Nat.{ℕ, ◌<◌}
use mathlib.Core.Path.{◌≡◌, ◌∙◌}
use mathlib.Core.Bool.{false, not}
use native.Mathlib.Omega.{arith}
use borrow.Author.Tests.{not-false}
use Rattle.grid.specs.Answer.{Answer, accept, refuse, refuse_if, refuse_at}
use Rattle.grid.specs.Values.{Table}
use Rattle.grid.specs.Slots.{grid_of}
use Rattle.grid.proofs.AnswerLaws.{refuse_if-passed, refuse_at-passed, refuse_at-here}
use Rattle.grid.proofs.ReadLaws.{refuse_if-later, refuse_at-later, accept-not-refuse}
use Rattle.drawing.specs.GridRules.{keeps_rules}
use Rattle.drawing.specs.Plain.{canvas_of, canvas_lines, drawn}
use Rattle.drawing.specs.Redraw.{table_empty, table_too_large, table_outside_set, foot_without_head, misaligned, drawn_too_large, split_cell, redraw_canvas, check_table, redraw}
use Rattle.drawing.specs.RoundTrip.{Keeps}
use Rattle.drawing.specs.Places.{Cornerless, LowestCornerless, FirstSplit}
use Rattle.drawing.proofs.PlaceLaws.{misaligned-lowest, lowest-misaligned, none-misaligned, split_cell-first, first-split_cell}
use Rattle.drawing.proofs.RoundTrip.{keeps-fine, keeps-passes}

-- ---- a refusal comes from one check of the chain
module _ {A : Type 0} where
  -- A refusal with a number past 8 comes from what follows the checks up to 8.
  pub late-refusal : (o : ℕ) (t : Table) (next : Answer A) (m k : ℕ) → 8 < m → check_table o t next ≡ refuse m k → Keeps o t × (next ≡ refuse m k)
  unfolding check_table
  late-refusal o t next m k h e =
      let a₁ = refuse_if-later (table_empty t) 1 _ m k (λ q. omega arith) e in
      let a₂ = refuse_if-later (table_too_large o t) 2 _ m k (λ q. omega arith) a₁ in
      let a₃ = refuse_at-later (table_outside_set t) 3 _ m k (λ q. omega arith) a₂ in
      let a₈ = refuse_if-later (not (keeps_rules t)) 8 _ m k (λ q. omega arith) a₃ in
      let keeps : Keeps o t =
      record {
        not_empty = refuse_if-passed (table_empty t) 1 _ m k (λ q. omega arith) e;
        not_too_large = refuse_if-passed (table_too_large o t) 2 _ m k (λ q. omega arith) a₁;
        in_set = refuse_at-passed (table_outside_set t) 3 _ m k (λ q. omega arith) a₂;
        rules = not-false (keeps_rules t) (refuse_if-passed (not (keeps_rules t)) 8 _ m k (λ q. omega arith) a₃);
      } in
      (keeps, a₈)

-- ---- the places

-- Where redraw answers 10 at place k, column k is aligned and has no corner at its left on the alignment line, and no lower column is so.
pub redraw-place-ten : (o : ℕ) (t : Table) (k : ℕ) → redraw o t ≡ refuse 10 k → LowestCornerless (canvas_of t) k
unfolding redraw redraw_canvas
redraw-place-ten o t k e =
    let v = canvas_of t in
    let lines = canvas_lines o v in
    let (kept, r) = late-refusal o t (redraw_canvas t v lines) 10 k (omega arith) e in
    let a₉ = refuse_if-later (foot_without_head t) 9 _ 10 k (λ q. omega arith) r in
    let later : refuse_if (drawn_too_large v lines) 2 (refuse_at (split_cell v (grid_of lines)) 11 (accept lines)) ≡ refuse 10 k → ⊥ =
    λ s.
    let b₂ = refuse_if-later (drawn_too_large v lines) 2 _ 10 k (λ q. omega arith) s in
    let b₁₁ = refuse_at-later (split_cell v (grid_of lines)) 11 _ 10 k (λ q. omega arith) b₂ in
    accept-not-refuse lines 10 k b₁₁ in
    misaligned-lowest (keeps-fine kept) o k (refuse_at-here (misaligned v) 10 _ k later a₉)

-- Where it answers 11 at place k, cell k splits in the plain drawing, and no earlier cell does.
pub redraw-place-eleven : (o : ℕ) (t : Table) (k : ℕ) → redraw o t ≡ refuse 11 k → FirstSplit (canvas_of t) (grid_of (drawn o t)) k
unfolding redraw redraw_canvas drawn
redraw-place-eleven o t k e =
    let v = canvas_of t in
    let lines = canvas_lines o v in
    let (kept, r) = late-refusal o t (redraw_canvas t v lines) 11 k (omega arith) e in
    let a₉ = refuse_if-later (foot_without_head t) 9 _ 11 k (λ q. omega arith) r in
    let a₁₀ = refuse_at-later (misaligned v) 10 _ 11 k (λ q. omega arith) a₉ in
    let a₂ = refuse_if-later (drawn_too_large v lines) 2 _ 11 k (λ q. omega arith) a₁₀ in
    split_cell-first v (grid_of lines) k (refuse_at-here (split_cell v (grid_of lines)) 11 _ k (λ s. accept-not-refuse lines 11 k s) a₂)

-- ---- and back
module _ (o : ℕ) (t : Table) (kept : Keeps o t) (headed : foot_without_head t ≡ false) where
  -- Where the checks before pass, such a column is answered by 10, and its place is the lowest such column.
  pub place-redraw-ten : (k : ℕ) → LowestCornerless (canvas_of t) k → redraw o t ≡ refuse 10 k
  unfolding redraw redraw_canvas
  place-redraw-ten k l =
      keeps-passes o t (redraw_canvas t (canvas_of t) (canvas_lines o (canvas_of t))) kept ∙ rw (headed, lowest-misaligned (keeps-fine kept) o k l)

  -- Where they pass and there is no such column, a split in a drawing within the limits is answered by 11, and its place is the first such cell.
  pub place-redraw-eleven : ((j : ℕ) → Cornerless (canvas_of t) j → ⊥) → drawn_too_large (canvas_of t) (drawn o t) ≡ false → (k : ℕ)
      → FirstSplit (canvas_of t) (grid_of (drawn o t)) k → redraw o t ≡ refuse 11 k
  unfolding redraw redraw_canvas drawn
  place-redraw-eleven aligned small k s =
      let lines = canvas_lines o (canvas_of t) in
      keeps-passes o t (redraw_canvas t (canvas_of t) lines) kept
      ∙ rw (headed, none-misaligned (keeps-fine kept) o aligned, small, first-split_cell (canvas_of t) (grid_of lines) k s)
