-- Laws of the search for an aligned column without a mark.
use Prim.Native.Nat.{ℕ, ◌+◌, ◌*◌, ◌≤◌, ◌<◌}
use mathlib.Core.Path.{◌≡◌, sym}
use mathlib.Core.Bool.{not, true, false, ◌&&◌}
use mathlib.Core.Logic.{⊎_elim}
use mathlib.Core.Option.{none, some}
use mathlib.Core.List.{List}
use native.Mathlib.Nat.{eq-or-lt_of_le}
use native.Mathlib.Omega.{arith}
use lib.Dec.{eqb}
use lib.ListN.{get_or}
use Rattle.seq.specs.Lists.{find, up_to}
use Rattle.seq.proofs.Finds.{find_first, find-nothing}
use Rattle.seq.proofs.Ranges.{range-mem}
use Rattle.alignment.specs.Corners.{lacks_corner}

-- none of the first k columns lacks a corner
pub record Passed (cols marks : List ℕ) (k : ℕ) : Type 0 where
  pub before : (j : ℕ) → j < k → lacks_corner cols marks j ≡ false

pub none_passed : (cols marks : List ℕ) → Passed cols marks 0
none_passed cols marks = record { before = λ j low. absurd (omega arith) }

module _ {cols marks : List ℕ} {k : ℕ} (p : Passed cols marks k) where
  pub lack-found : (columns : ℕ) → k < columns → not (eqb (get_or cols (2 * k) 0) 0) && eqb (get_or marks k 0) 0 ≡ true → some k ≡ find (lacks_corner cols marks) (up_to columns)
  lack-found columns h e = sym (find_first (lacks_corner cols marks) 0 columns k (omega arith) (omega arith) (λ i a b. p.before i b) e)

  pub lack-nowhere : (columns : ℕ) → columns ≤ k → none ≡ find (lacks_corner cols marks) (up_to columns)
  lack-nowhere columns done = sym (find-nothing (lacks_corner cols marks) (up_to columns) (λ j m. p.before j (omega (arith, range-mem 0 columns j m))))
