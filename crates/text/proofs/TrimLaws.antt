-- Laws of specs/Trim.antt.
use Prim.Native.Nat.{ℕ, zero, suc, ◌+◌, ◌-◌, ◌≤◌, ◌<◌}
use mathlib.Core.Path.{◌≡◌, refl, sym, ap, ◌∙◌}
use mathlib.Core.Bool.{Bool, true, false, not, cond}
use mathlib.Core.List.{List, [], ◌∷◌, ◌++◌, append-nil, append_assoc}
use native.Mathlib.Omega.{arith}
use lib.ListN.{length, take, drop, get_or, replicate}
use lib.Seq.{take-add}
use borrow.Author.Tests.{not-true, not-false}
use Rattle.seq.proofs.Tests.{both_true}
use Rattle.seq.specs.Lists.{all}
use Rattle.seq.proofs.ListsLaws.{take_last}
use Rattle.text.specs.Characters.{space}
use Rattle.text.specs.Trim.{blank, before_trimmed, trim_end}

-- ---- at the last byte
pub trim-blank : (s : List ℕ) (b : ℕ) → blank b ≡ true → trim_end (s ++ b ∷ []) ≡ trim_end s
unfolding trim_end
trim-blank [] b h = rw h
trim-blank (a ∷ s) b h = ap (before_trimmed a) (trim-blank s b h)

pub trim-kept : (s : List ℕ) (b : ℕ) → blank b ≡ false → trim_end (s ++ b ∷ []) ≡ s ++ b ∷ []
unfolding trim_end
trim-kept [] b h = rw h
trim-kept (a ∷ []) b h = rw h
trim-kept (a ∷ c ∷ s) b h = ap (before_trimmed a) (trim-kept (c ∷ s) b h)

pub trim-blanks : (s t : List ℕ) → all blank t ≡ true → trim_end (s ++ t) ≡ trim_end s
unfolding all
trim-blanks s [] h = rw append-nil
trim-blanks s (b ∷ t) h =
    let (here, later) = both_true (blank b) (all blank t) h in
    ap trim_end (sym (append_assoc s (b ∷ []) t)) ∙ trim-blanks (s ++ b ∷ []) t later ∙ trim-blank s b here

spaces-blank : (k : ℕ) → all blank (replicate k space) ≡ true
unfolding all
spaces-blank zero = refl
spaces-blank (suc k) = spaces-blank k

pub trim-spaces : (s : List ℕ) (k : ℕ) → trim_end (s ++ replicate k space) ≡ trim_end s
trim-spaces s k = trim-blanks s (replicate k space) (spaces-blank k)

-- A scan from the end, with all from n on found blank: it stops at a byte that is not, goes on, or has come to the start
module _ (s : List ℕ) (n : ℕ) (scanned : trim_end s ≡ trim_end (take n s)) where
  pub trim-stops : (t : Bool) → 0 < n → n ≤ length s → t ≡ blank (get_or s (n - 1) 0) → not t ≡ true → take (n - 1 + 1) s ≡ trim_end s
  trim-stops t pos h e f =
      let same : n - 1 + 1 ≡ n = omega arith in
      rw (same, scanned, take_last s n pos h) (sym (trim-kept (take (n - 1) s) (get_or s (n - 1) 0) (sym e ∙ not-true t f)))

  pub trim-goes-on : (t : Bool) → 0 < n → n ≤ length s → t ≡ blank (get_or s (n - 1) 0) → not t ≡ false → trim_end s ≡ trim_end (take (n - 1) s)
  trim-goes-on t pos h e f =
      scanned ∙ ap trim_end (take_last s n pos h) ∙ trim-blank (take (n - 1) s) (get_or s (n - 1) 0) (sym e ∙ not-false t f)

  -- a block of blanks is dropped at once
  pub trim-block : (size : ℕ) (t : Bool) → size ≤ n → t ≡ all blank (take (n - (n - size)) (drop (n - size) s)) → not t ≡ false → trim_end s ≡ trim_end (take (n - size) s)
  trim-block size t fits e f =
      let parts : n ≡ n - size + (n - (n - size)) = omega arith in
      scanned ∙ ap (λ (k : ℕ). trim_end (take k s)) parts ∙ ap trim_end (take-add (n - size) (n - (n - size)) s)
      ∙ trim-blanks (take (n - size) s) (take (n - (n - size)) (drop (n - size) s)) (sym e ∙ not-false t f)

  pub trim-leaves-none : n ≤ 0 → [] ≡ trim_end s
  unfolding trim_end
  trim-leaves-none h = let e : n ≡ 0 = omega arith in rw (scanned, e)

-- ---- what is left is a first part
pub trim-prefix : (s : List ℕ) → trim_end s ≡ take (length (trim_end s)) s
unfolding trim_end
trim-prefix [] = refl
trim-prefix (b ∷ bs) = go (trim_end bs) (trim-prefix bs) where
  go : (t : List ℕ) → t ≡ take (length t) bs → before_trimmed b t ≡ take (length (before_trimmed b t)) (b ∷ bs)
  go [] e = ends (blank b) where
    ends : (t : Bool) → cond t [] (b ∷ []) ≡ take (length (cond t [] (b ∷ []))) (b ∷ bs)
    ends true = refl
    ends false = refl
  go (c ∷ cs) e = ap (λ (l : List ℕ). b ∷ l) e

pub trim-shorter : (s : List ℕ) → length (trim_end s) ≤ length s
unfolding trim_end
trim-shorter [] = omega arith
trim-shorter (b ∷ bs) = go (trim_end bs) (trim-shorter bs) where
  go : (t : List ℕ) → length t ≤ length bs → length (before_trimmed b t) ≤ suc (length bs)
  go [] h = ends (blank b) where
    ends : (t : Bool) → length (cond t [] (b ∷ [])) ≤ suc (length bs)
    ends true = omega arith
    ends false = omega arith
  go (c ∷ cs) h = omega arith

pub trim-again : (s : List ℕ) → trim_end (trim_end s) ≡ trim_end s
unfolding trim_end
trim-again [] = refl
trim-again (b ∷ bs) = go (trim_end bs) (trim-again bs) where
  go : (t : List ℕ) → trim_end t ≡ t → trim_end (before_trimmed b t) ≡ before_trimmed b t
  go [] e = ends (blank b) refl where
    ends : (t : Bool) → blank b ≡ t → trim_end (cond t [] (b ∷ [])) ≡ cond t [] (b ∷ [])
    ends true e = refl
    ends false e = rw e
  go (c ∷ cs) e = ap (before_trimmed b) e

pub trim-rest : (b : ℕ) (bs : List ℕ) → trim_end (b ∷ bs) ≡ b ∷ bs → trim_end bs ≡ bs
unfolding trim_end
trim-rest b bs e = go (trim_end bs) e where
  go : (t : List ℕ) → before_trimmed b t ≡ b ∷ bs → t ≡ bs
  go [] e = ends (blank b) e where
    ends : (t : Bool) → cond t [] (b ∷ []) ≡ b ∷ bs → [] ≡ bs
    ends true e = let z : ◌≡◌ {A = ℕ} 0 1 = cc in absurd (omega arith)
    ends false e = cc
  go (c ∷ cs) e = cc
