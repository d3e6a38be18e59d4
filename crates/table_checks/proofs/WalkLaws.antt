-- Laws of a walk along a list that tests each element, or each two neighbours: `all` and `neighbours` from an index on.
use Prim.Native.Nat.{ℕ, ◌+◌, ◌≤◌, ◌<◌}
use mathlib.Core.Path.{◌≡◌, refl, sym, ◌∙◌}
use mathlib.Core.Bool.{Bool, true, false, ◌&&◌}
use mathlib.Core.List.{List, [], ◌∷◌}
use native.Mathlib.Omega.{arith}
use native.Mathlib.Numerals.{add-one}
use lib.ListN.{length, get_or, drop, length-drop, drop_of_length-le}
use lib.Seq.{drop-cons}
use Rattle.seq.specs.Lists.{all, neighbours}

drop_here : {A : Type 0} (l : List A) (i : ℕ) (d : A) → i < length l → drop i l ≡ get_or l i d ∷ drop (i + 1) l
drop_here l i d h = rw (add-one i) (drop-cons l i d h)

module _ {A : Type 0} (test : A → Bool) (l : List A) (i : ℕ) (d : A) (whole : Bool) (passed : whole ≡ all test (drop i l)) where
  all-step : i < length l → whole ≡ test (get_or l i d) && all test (drop (i + 1) l)
  unfolding all
  all-step h = passed ∙ rw (drop_here l i d h)

  pub all-fails : i < length l → test (get_or l i d) ≡ false → false ≡ whole
  all-fails h e = sym (all-step h ∙ rw e)

  pub all-passes : i < length l → test (get_or l i d) ≡ true → whole ≡ all test (drop (i + 1) l)
  all-passes h e = all-step h ∙ rw e

  pub all_done : length l ≤ i → true ≡ whole
  unfolding all
  all_done h = sym (passed ∙ rw (drop_of_length-le l h))

module _ {A : Type 0} (test : A → A → Bool) (l : List A) (i : ℕ) (d : A) (whole : Bool) (passed : whole ≡ neighbours test (drop i l)) where
  neighbours-step : i + 1 < length l → whole ≡ test (get_or l i d) (get_or l (i + 1) d) && neighbours test (drop (i + 1) l)
  unfolding neighbours
  neighbours-step h =
      let next : drop (i + 1) l ≡ get_or l (i + 1) d ∷ drop (i + 1 + 1) l = drop_here l (i + 1) d h in
      passed ∙ rw (drop_here l i d (omega arith), next)

  pub neighbours-fail : i + 1 < length l → test (get_or l i d) (get_or l (i + 1) d) ≡ false → false ≡ whole
  neighbours-fail h e = sym (neighbours-step h ∙ rw e)

  pub neighbours-pass : i + 1 < length l → test (get_or l i d) (get_or l (i + 1) d) ≡ true → whole ≡ neighbours test (drop (i + 1) l)
  neighbours-pass h e = neighbours-step h ∙ rw e

  pub neighbours-done : length l ≤ i + 1 → true ≡ whole
  unfolding neighbours
  neighbours-done h = sym (passed ∙ at_most_one (drop i l) (omega (arith, length-drop i l))) where
    at_most_one : (k : List A) → length k ≤ 1 → neighbours test k ≡ true
    at_most_one [] h = refl
    at_most_one (a ∷ []) h = refl
    at_most_one (a ∷ b ∷ k) h = absurd (omega arith)
