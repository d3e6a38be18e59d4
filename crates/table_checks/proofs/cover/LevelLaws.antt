-- Laws of levels.
use Prim.Native.Nat.{ℕ, suc, ◌+◌, ◌-◌, ◌≤◌, ◌<◌}
use mathlib.Core.Path.{◌≡◌, sym, ◌∙◌}
use mathlib.Core.Bool.{true, false, ◌&&◌}
use mathlib.Core.List.{List}
use native.Mathlib.Omega.{arith}
use lib.Dec.{eqb, leb}
use lib.ListN.{get_or}
use borrow.Author.Tests.{eq-eqb, ne_eqb, eqb-true, le-leb, lt-leb, lt-ltb, le-ltb}
use Rattle.seq.specs.Lists.{range, all}
use Rattle.seq.proofs.Searches.{all-range, range_all}
use Rattle.seq.proofs.Tests.{and-false}
use Rattle.table_checks.specs.Skyline.{all_at, Raised}

-- ---- all at one level
module _ (levels : List ℕ) (to level : ℕ) where
  pub all-at-levels : (from : ℕ) → all_at levels from to level ≡ true → (x : ℕ) → from ≤ x → x < to → get_or levels x 0 ≡ level
  unfolding all_at
  all-at-levels from e x low high =
      eqb-true (get_or levels x 0) level (all-range (λ x. eqb (get_or levels x 0) level) from (to - from) e x low (omega arith))

  pub levels-all-at : (from : ℕ) → ((x : ℕ) → from ≤ x → x < to → get_or levels x 0 ≡ level) → all_at levels from to level ≡ true
  unfolding all_at
  levels-all-at from h =
      range_all (λ x. eqb (get_or levels x 0) level) from (to - from) (λ x low high. eq-eqb (get_or levels x 0) level (h x low (omega arith)))

  at-step : (x : ℕ) → x < to → all_at levels x to level ≡ eqb (get_or levels x 0) level && all_at levels (x + 1) to level
  unfolding all_at all range
  at-step x h = let more : to - x ≡ suc (to - (x + 1)) = omega arith in rw more

  module _ (from x : ℕ) (passed : all_at levels from to level ≡ all_at levels x to level) where
    pub not_at : x < to → (get_or levels x 0 ≡ level → ⊥) → false ≡ all_at levels from to level
    not_at h differs = sym (passed ∙ at-step x h ∙ rw (ne_eqb (get_or levels x 0) level differs))

    pub at_level : x < to → get_or levels x 0 ≡ level → all_at levels from to level ≡ all_at levels (x + 1) to level
    at_level h e = passed ∙ at-step x h ∙ rw (eq-eqb (get_or levels x 0) level e)

    pub all-at : to ≤ x → true ≡ all_at levels from to level
    unfolding all_at all range
    all-at h = let none : to - x ≡ 0 = omega arith in sym (passed ∙ rw none)

-- ---- raising
module _ (old : List ℕ) (left right bottom : ℕ) (new : List ℕ) (raised : Raised old left right bottom new) (x : ℕ) (h : x < 128) where
  pub raised-inside : left ≤ x → x < right → get_or new x 0 ≡ bottom
  raised-inside low high = raised.level x h ∙ rw (le-leb left x low, lt-ltb x right high)

  pub raised-left : x < left → get_or new x 0 ≡ get_or old x 0
  raised-left low = raised.level x h ∙ rw (lt-leb left x low)

  pub raised-right : right ≤ x → get_or new x 0 ≡ get_or old x 0
  raised-right high = raised.level x h ∙ rw (le-ltb x right high, and-false (leb left x))
