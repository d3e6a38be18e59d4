-- On a table's canvas the next corner of the alignment line is at the next marked column line (`next-marked`).
use Prim.Native.Nat.{ℕ, ◌+◌, ◌-◌, ◌≤◌, ◌<◌}
use mathlib.Core.Path.{◌≡◌, sym, ap, ◌∙◌}
use mathlib.Core.Bool.{true, false}
use mathlib.Core.Logic.{⊎_elim}
use mathlib.Core.List.{List}
use native.Mathlib.Omega.{arith}
use native.Mathlib.Nat.{eq-or-lt_of_le}
use lib.Dec.{eqb}
use lib.ListN.{length, get_or}
use Rattle.seq.specs.Lists.{range, or_default}
use Rattle.seq.proofs.Ranges.{range-mem}
use Rattle.seq.proofs.Finds.{find_first, find-nothing}
use Rattle.grid.specs.Values.{Table}
use Rattle.drawing.specs.Plain.{canvas_of, corner_at, alignment_row, next_corner}
use Rattle.drawing.proofs.BoxLaws.{corner_at-box}
use Rattle.drawing.proofs.CanvasLaws.{Fine, x_at, x_at-up, x_at-lt, side-x_at}
use Rattle.drawing.proofs.LinedLaws.{corner_after, next_corner-is}
use Rattle.canvas.specs.Painting.{next_mark}

module _ {t : Table} (F : Fine t) (marks : List ℕ)
    (marked : (k : ℕ) → k < length t.columns → corner_at (canvas_of t) (alignment_row (canvas_of t)) (x_at t k) ≡ eqb (get_or marks k 0) 1) where
  abbrev columns : ℕ
  columns = length t.columns

  -- no column line between two neighbouring corners is marked, so the first marked one after k is j
  mark-at : (k j : ℕ) → k < j → j ≤ columns → ((i : ℕ) → k < i → i < j → eqb (get_or marks i 0) 1 ≡ false)
      → (j < columns → eqb (get_or marks j 0) 1 ≡ true) → next_mark marks columns (k + 1) ≡ j
  unfolding next_mark
  mark-at k j u w between at =
      ⊎_elim
      (λ (e : j ≡ columns).
      ap (or_default columns)
      (find-nothing (λ i. eqb (get_or marks i 0) 1) (range (k + 1) (columns - (k + 1)))
      (λ i m. let inside = range-mem (k + 1) (columns - (k + 1)) i m in between i (omega arith) (omega arith)))
      ∙ sym e)
      (λ (h : j < columns).
      ap (or_default columns)
      (find_first (λ i. eqb (get_or marks i 0) 1) (k + 1) (columns - (k + 1)) j (omega arith) (omega arith) (λ i a b. between i (omega arith) b) (at h)))
      (eq-or-lt_of_le w)

  pub next-marked : (k : ℕ) → k < columns → next_corner (canvas_of t) (alignment_row (canvas_of t)) (x_at t k) ≡ x_at t (next_mark marks columns (k + 1))
  next-marked k u =
      let n = corner_after F k u in
      let (b, m, _, side) = corner_at-box (canvas_of t) (alignment_row (canvas_of t)) n.at n.found in
      let (j, w, e) = side-x_at F m n.at side in
      let after = x_at-lt F k j (omega arith) (omega (arith, n.low)) in
      next_corner-is F k u ∙ e
      ∙ ap (x_at t)
      (sym
      (mark-at k j after w
      (λ i a b. sym (marked i (omega arith)) ∙ n.before (x_at t i) (omega (arith, x_at-up F k i a (omega arith))) (omega (arith, x_at-up F i j b w)))
      (λ h. sym (marked j h) ∙ ap (corner_at (canvas_of t) (alignment_row (canvas_of t))) (sym e) ∙ n.found)))
