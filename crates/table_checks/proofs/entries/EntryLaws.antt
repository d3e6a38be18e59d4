-- Laws of the entries of an array at equal distances.
use Prim.Native.Nat.{ℕ, zero, suc, ◌+◌, ◌-◌, ◌*◌, ◌≤◌, ◌<◌}
use mathlib.Core.Path.{◌≡◌, refl, sym, ap, ◌∙◌}
use mathlib.Core.Bool.{true, false}
use mathlib.Core.List.{List, [], ◌∷◌}
use native.Mathlib.Omega.{arith}
use native.Mathlib.Nat.{add-zero, mul-suc}
use lib.Dec.{eqb}
use lib.ListN.{length, get_or}
use lib.Seq.{get_or-drop, drop-drop}
use borrow.Author.Tests.{lt-ltb, le-ltb, ne_eqb}
use Rattle.seq.specs.Lists.{sum, any}
use Rattle.seq.proofs.Walks.{eqb_same}
use Rattle.grid.specs.Flat.{every_nth}
use Rattle.reading.specs.Agreement.{any_over}
use Rattle.table_checks.specs.Entries.{entries}

pub entries-step : (numbers : List ℕ) (step at left : ℕ) → 0 < left
    → entries at step left numbers ≡ get_or numbers at 0 ∷ entries (at + step) step (left - 1) numbers
unfolding every_nth
entries-step numbers step at zero more = absurd (omega arith)
entries-step numbers step at (suc left) more =
    let e : suc left - 1 ≡ left = omega arith in rw (e, get_or-drop at numbers 0 0, add-zero at, drop-drop step at numbers)

-- all of an array
pub entries-all : (numbers : List ℕ) → entries 0 1 (length numbers) numbers ≡ numbers
unfolding every_nth
entries-all [] = refl
entries-all (n ∷ numbers) = ap (λ (l : List ℕ). n ∷ l) (entries-all numbers)

-- ---- one over a limit
-- the entries from entry k on
abbrev later : (from step count k : ℕ) → List ℕ → List ℕ
later from step count k numbers = entries (step * k + from) step (count - k) numbers

later-step : (from step count k : ℕ) (numbers : List ℕ) → k < count
    → later from step count k numbers ≡ get_or numbers (step * k + from) 0 ∷ later from step count (k + 1) numbers
later-step from step count k numbers h =
    let here = entries-step numbers step (step * k + from) (count - k) (omega arith) in
    let place : step * k + from + step ≡ step * (k + 1) + from = omega (arith, mul-suc step k) in
    let left : count - k - 1 ≡ count - (k + 1) = omega arith in
    rw (place, left) at here

module _ (limit : ℕ) (numbers : List ℕ) (from step count k : ℕ)
    (passed : any_over limit (entries from step count numbers) ≡ any_over limit (later from step count k numbers)) where
  pub over-here : k < count → limit < get_or numbers (step * k + from) 0 → true ≡ any_over limit (entries from step count numbers)
  unfolding any_over any
  over-here h over = rw (passed, later-step from step count k numbers h, lt-ltb limit (get_or numbers (step * k + from) 0) over)

  pub not-over-here : k < count → get_or numbers (step * k + from) 0 ≤ limit
      → any_over limit (entries from step count numbers) ≡ any_over limit (later from step count (k + 1) numbers)
  unfolding any_over any
  not-over-here h under = passed ∙ rw (later-step from step count k numbers h, le-ltb limit (get_or numbers (step * k + from) 0) under)

  pub none_over : count ≤ k → false ≡ any_over limit (entries from step count numbers)
  unfolding any_over any every_nth
  none_over done = let none : count - k ≡ 0 = omega arith in sym (passed ∙ rw none)

-- ---- their sum, counted down
module _ (total : ℕ) (numbers : List ℕ) (from step count k missing : ℕ)
    (counted : eqb (sum (entries from step count numbers)) total ≡ eqb (sum (later from step count k numbers)) missing) where
  sum_step : k < count → sum (later from step count k numbers) ≡ get_or numbers (step * k + from) 0 + sum (later from step count (k + 1) numbers)
  unfolding sum
  sum_step h = rw (later-step from step count k numbers h)

  pub too_much : k < count → missing < get_or numbers (step * k + from) 0 → false ≡ eqb (sum (entries from step count numbers)) total
  too_much h over = rw counted (sym (ne_eqb (sum (later from step count k numbers)) missing (λ e. omega (arith, sum_step h))))

  pub counts-down : k < count → get_or numbers (step * k + from) 0 ≤ missing
      → eqb (sum (entries from step count numbers)) total ≡ eqb (sum (later from step count (k + 1) numbers)) (missing - get_or numbers (step * k + from) 0)
  counts-down h fits =
      let here = get_or numbers (step * k + from) 0 in
      counted ∙ eqb_same (sum (later from step count k numbers)) missing (sum (later from step count (k + 1) numbers)) (missing - here)
      (λ e. omega (arith, sum_step h)) (λ e. omega (arith, sum_step h))

  pub counted-down : count ≤ k → eqb missing 0 ≡ eqb (sum (entries from step count numbers)) total
  unfolding sum every_nth
  counted-down done =
      let none : count - k ≡ 0 = omega arith in
      let end = rw none at counted in
      sym (end ∙ eqb_same 0 missing missing 0 sym sym)
