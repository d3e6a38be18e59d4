-- Laws of counting rows by their section.
use Prim.Native.Nat.{ℕ, ◌+◌, ◌≤◌, ◌<◌}
use mathlib.Core.Path.{◌≡◌, refl, sym, ◌∙◌}
use mathlib.Core.Bool.{Bool, true, false, cond}
use mathlib.Core.List.{List, map}
use native.Mathlib.Nat.{zero-add}
use native.Mathlib.Omega.{arith}
use lib.Dec.{eqb}
use lib.ListN.{length, get_or, drop, drop_of_length-le}
use borrow.Author.Tests.{eqb-true, eq-eqb, ne_eqb}
use Rattle.seq.specs.Lists.{select, count}
use Rattle.seq.proofs.ListsLaws.{drop-step}
use Rattle.seq.proofs.Searches.{count-cons, count_map, count-agree}
use Rattle.seq.proofs.Tests.{bit, bit-true, bit-false}
use Rattle.seq.proofs.Walks.{eqb_same}
use Rattle.grid.specs.Flat.{code_section}
use Rattle.grid.specs.declared.GridTableSection.TheVariants.{Head, Body, Foot}
use Rattle.drawing.specs.GridRules.{is_head, is_foot}

-- n of the first i are the code
pub record Counting (sections : List ℕ) (code n i : ℕ) : Type 0 where
  pub inside : i ≤ length sections
  pub few : n ≤ i
  pub left : count (eqb code) sections ≡ n + count (eqb code) (drop i sections)

pub none-counted : (sections : List ℕ) (code : ℕ) → Counting sections code 0 0
none-counted sections code = record { inside = omega arith; few = omega arith; left = sym (zero-add (count (eqb code) sections)) }

module _ {sections : List ℕ} {code n i : ℕ} (c : Counting sections code n i) where
  module _ (h : i < length sections) where
    next : count (eqb code) (drop i sections) ≡ bit (eqb code (get_or sections i 0)) + count (eqb code) (drop (i + 1) sections)
    next = rw (drop-step sections i h) (count-cons (eqb code) (get_or sections i 0) (drop (i + 1) sections))

    pub one-counted : {n' : ℕ} → code ≡ get_or sections i 0 → n' ≡ n + 1 → Counting sections code n' (i + 1)
    one-counted e f =
        record {
          inside = omega arith;
          few = omega (arith, c.few);
          left = omega (arith, c.left, next, bit-true (eq-eqb code (get_or sections i 0) e));
        }

    pub other-passed : {n' : ℕ} → (code ≡ get_or sections i 0 → ⊥) → n' ≡ n → Counting sections code n' (i + 1)
    other-passed e f =
        record {
          inside = omega arith;
          few = omega (arith, c.few);
          left = omega (arith, c.left, next, bit-false (ne_eqb code (get_or sections i 0) e));
        }

  pub all-counted : length sections ≤ i → n ≡ count (eqb code) sections
  unfolding select
  all-counted past = sym (c.left ∙ rw (drop_of_length-le sections past) (omega arith))

-- ---- the codes of Head and Foot
module _ (sections : List ℕ) where
  pub heads-counted : {n : ℕ} → n ≡ count (eqb 0) sections → n ≡ count is_head (map code_section sections)
  heads-counted e =
      e ∙ sym (count_map code_section is_head sections
      ∙ count-agree (λ code. is_head (code_section code)) (eqb 0) sections (λ code m. go (eqb code 0) (eqb code 2) ∙ eqb_same code 0 0 code sym sym)) where
        go : (head foot : Bool) → is_head (cond head Head (cond foot Foot Body)) ≡ head
        go true foot = refl
        go false true = refl
        go false false = refl

  pub foots-counted : {n : ℕ} → n ≡ count (eqb 2) sections → n ≡ count is_foot (map code_section sections)
  foots-counted e =
      e ∙ sym (count_map code_section is_foot sections
      ∙ count-agree (λ code. is_foot (code_section code)) (eqb 2) sections (λ code m. go code (eqb code 0) (eqb code 2) refl refl ∙ eqb_same code 2 2 code sym sym)) where
        go : (code : ℕ) (head foot : Bool) → eqb code 0 ≡ head → eqb code 2 ≡ foot → is_foot (cond head Head (cond foot Foot Body)) ≡ foot
        go code true true e f = absurd (omega (arith, eqb-true code 0 e, eqb-true code 2 f))
        go code true false e f = refl
        go code false true e f = refl
        go code false false e f = refl
