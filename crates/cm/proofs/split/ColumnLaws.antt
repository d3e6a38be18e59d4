-- The search for a column at which a cell splits.
use Prim.Native.Nat.{ℕ, suc, ◌+◌, ◌-◌, ◌≤◌, ◌<◌}
use mathlib.Core.Path.{◌≡◌, refl, sym, ap, ◌∙◌}
use mathlib.Core.Bool.{Bool, true, false, ◌&&◌, ◌||◌}
use mathlib.Core.List.{List}
use native.Mathlib.Omega.{arith}
use lib.Dec.{eqb}
use lib.ListN.{get_or}
use Rattle.seq.specs.Lists.{range, any}
use Rattle.text.specs.Characters.{plus}
use Rattle.representation.specs.Arrays.{code_at}
use Rattle.grid.proofs.RectangleLaws.{rect}
use Rattle.cm.specs.Hits.{split_column}

abbrev pub split_test : List ℕ → ℕ → ℕ → ℕ → List ℕ → ℕ → Bool
split_test canvas top bottom lines hits x = eqb (code_at canvas top x) plus && eqb (code_at canvas bottom x) plus && eqb (get_or hits x 0) lines

module _ (canvas : List ℕ) (top left bottom right lines : ℕ) (hits : List ℕ) where
  pub search-starts : split_column canvas (rect top left bottom right) lines hits ≡ any (split_test canvas top bottom lines hits) (range (left + 1) (right - (left + 1)))
  search-starts = let e : right - left - 1 ≡ right - (left + 1) = omega arith in ap (λ (n : ℕ). any (split_test canvas top bottom lines hits) (range (left + 1) n)) e

  module _ (x : ℕ) (so_far : split_column canvas (rect top left bottom right) lines hits ≡ any (split_test canvas top bottom lines hits) (range x (right - x))) where
    turn : x < right → any (split_test canvas top bottom lines hits) (range x (right - x)) ≡ split_test canvas top bottom lines hits x || any (split_test canvas top bottom lines hits) (range (x + 1) (right - (x + 1)))
    unfolding any range
    turn u = let e : right - x ≡ suc (right - (x + 1)) = omega arith in rw e refl

    pub search-here : x < right → split_test canvas top bottom lines hits x ≡ true → true ≡ split_column canvas (rect top left bottom right) lines hits
    search-here u e = sym (so_far ∙ turn u ∙ rw e refl)

    pub search-next : x < right → split_test canvas top bottom lines hits x ≡ false
        → split_column canvas (rect top left bottom right) lines hits ≡ any (split_test canvas top bottom lines hits) (range (x + 1) (right - (x + 1)))
    search-next u e = so_far ∙ turn u ∙ rw e refl

    pub search-ends : right ≤ x → false ≡ split_column canvas (rect top left bottom right) lines hits
    unfolding any range
    search-ends u = let e : right - x ≡ 0 = omega arith in sym (so_far ∙ rw e refl)
