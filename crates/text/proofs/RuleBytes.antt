-- A line that is given byte by byte. It is a rule where its bytes are a `Ruling` (`rule-of-bytes`), and none by its second byte
-- (`second-no-rule`). `to_plus-of-bytes`: its part up to the next `+`.
use Prim.Native.Nat.{ℕ, zero, suc, ◌+◌, ◌-◌, ◌≤◌, ◌<◌}
use mathlib.Core.Path.{◌≡◌, refl, sym, ap, ◌∙◌}
use mathlib.Core.Bool.{Bool, true, false, ◌&&◌}
use mathlib.Core.Logic.{◌⊎◌, ⊎_elim}
use mathlib.Core.List.{List, [], ◌∷◌, ◌++◌, map, append_assoc, append-nil}
use native.Mathlib.Omega.{arith}
use native.Mathlib.Nat.{le_refl, eq-or-lt_of_le}
use lib.Dec.{eqb}
use borrow.Author.Tests.{eq-eqb, ne_eqb}
use lib.ListN.{replicate}
use Rattle.seq.specs.Lists.{range, up_to, all, any}
use Rattle.seq.proofs.Tests.{and_intro, and-false, or-none}
use Rattle.text.specs.Characters.{plus, colon}
use Rattle.text.specs.Rule.{to_plus, onto_first, parts_at_plus, drop_trailing_colon, fills, is_segment, closed_segments, is_rule}
use Rattle.text.proofs.RuleLaws.{rule-of-segments, drop-colon}

-- ---- segments: a colon or none, fill bytes, a colon or none
abbrev opening : Bool → List ℕ
opening true = colon ∷ []
opening false = []

module _ (fill : ℕ) (not_plus : fill ≡ plus → ⊥) (not_colon : fill ≡ colon → ⊥) where
  trail : (k : ℕ) → drop_trailing_colon (replicate (suc k) fill) ≡ replicate (suc k) fill
  unfolding drop_trailing_colon
  trail zero = rw (ne_eqb fill colon not_colon)
  trail (suc k) = ap (λ (l : List ℕ). fill ∷ l) (trail k)

  filled : (k : ℕ) → fills fill (replicate (suc k) fill) ≡ true
  unfolding fills all
  filled k = go k where
    go : (k : ℕ) → all (λ b. eqb b fill) (replicate (suc k) fill) ≡ true
    go zero = rw (eq-eqb fill fill refl)
    go (suc k) = and_intro (eq-eqb fill fill refl) (go k)

  -- what has been read since the last `+`
  data State : Type 0 where
    corner opened : State
    running : Bool → ℕ → State
    closed : Bool → ℕ → State

  part_of : State → List ℕ
  part_of corner = []
  part_of opened = colon ∷ []
  part_of (running a k) = opening a ++ replicate (suc k) fill
  part_of (closed a k) = (opening a ++ replicate (suc k) fill) ++ colon ∷ []

  running-segment : (a : Bool) (k : ℕ) → is_segment fill (opening a ++ replicate (suc k) fill) ≡ true
  unfolding is_segment
  running-segment true k = ap (fills fill) (trail k) ∙ filled k
  running-segment false k = rw (ne_eqb fill colon not_colon) (ap (fills fill) (trail k) ∙ filled k)

  closed-segment : (a : Bool) (k : ℕ) → is_segment fill ((opening a ++ replicate (suc k) fill) ++ colon ∷ []) ≡ true
  unfolding is_segment
  closed-segment true k = ap (fills fill) (drop-colon (replicate (suc k) fill)) ∙ filled k
  closed-segment false k = rw (ne_eqb fill colon not_colon) (ap (fills fill) (drop-colon (replicate (suc k) fill)) ∙ filled k)

  abbrev no_plus : List ℕ → Type 0
  no_plus l = any (λ b. eqb b plus) l ≡ false

  fill-no-plus : (k : ℕ) (l : List ℕ) → no_plus l → no_plus (replicate k fill ++ l)
  unfolding any
  fill-no-plus zero l h = h
  fill-no-plus (suc k) l h = or-none (ne_eqb fill plus not_plus) (fill-no-plus k l h)

  opening-no-plus : (a : Bool) (l : List ℕ) → no_plus l → no_plus (opening a ++ l)
  unfolding any
  opening-no-plus true l h = h
  opening-no-plus false l h = h

  nothing-no-plus : no_plus []
  unfolding any
  nothing-no-plus = refl

  colon-no-plus : no_plus (colon ∷ [])
  unfolding any
  colon-no-plus = refl

  running-no-plus : (a : Bool) (k : ℕ) → no_plus (opening a ++ replicate (suc k) fill)
  running-no-plus a k = opening-no-plus a (replicate (suc k) fill) (rw append-nil at (fill-no-plus (suc k) [] nothing-no-plus))

  closed-no-plus : (a : Bool) (k : ℕ) → no_plus ((opening a ++ replicate (suc k) fill) ++ colon ∷ [])
  closed-no-plus a k = rw append_assoc (opening-no-plus a (replicate (suc k) fill ++ colon ∷ []) (fill-no-plus (suc k) (colon ∷ []) colon-no-plus))

  snoc-fill : (k : ℕ) (l : List ℕ) → replicate (suc k) fill ++ fill ∷ l ≡ replicate (suc (suc k)) fill ++ l
  snoc-fill zero l = refl
  snoc-fill (suc k) l = ap (λ (r : List ℕ). fill ∷ r) (snoc-fill k l)

  -- ---- a line given byte by byte
  module _ (β : ℕ → ℕ) (width : ℕ) where
    pub record Ruling : Type 0 where
      pub begins : β 0 ≡ plus
      pub ends : β (width - 1) ≡ plus
      pub after_plus : (x : ℕ) → x + 1 < width → β x ≡ plus → (β (x + 1) ≡ fill) ⊎ (β (x + 1) ≡ colon)
      pub after-fill : (x : ℕ) → x + 1 < width → β x ≡ fill → (β (x + 1) ≡ fill) ⊎ ((β (x + 1) ≡ colon) ⊎ (β (x + 1) ≡ plus))
      pub after-opening : (x : ℕ) → x + 1 + 1 < width → β x ≡ plus → β (x + 1) ≡ colon → β (x + 1 + 1) ≡ fill
      pub after-closing : (x : ℕ) → x + 1 + 1 < width → β x ≡ fill → β (x + 1) ≡ colon → β (x + 1 + 1) ≡ plus

    -- what the last byte read, and the one before it, say of the state
    Stands : State → ℕ → Type 0
    Stands corner x = β x ≡ plus
    Stands opened x = (z : ℕ) × (x ≡ z + 1) × (β z ≡ plus) × (β x ≡ colon)
    Stands (running a k) x = β x ≡ fill
    Stands (closed a k) x = (z : ℕ) × (x ≡ z + 1) × (β z ≡ fill) × (β x ≡ colon)

    module _ (R : Ruling) where
      last-plus : (x : ℕ) → x + 1 ≡ width → β x ≡ plus
      last-plus x l = let e : width - 1 ≡ x = omega arith in rw e at R.ends

      abbrev Rest : ℕ → ℕ → List ℕ
      Rest x n = map β (range x n)

      -- a byte other than `+` goes to the part
      onward : (l : List ℕ) (b : ℕ) (r m : List ℕ) → m ≡ b ∷ r → is_rule fill (plus ∷ ((l ++ b ∷ []) ++ r)) ≡ true → is_rule fill (plus ∷ (l ++ m)) ≡ true
      onward l b r m q h = ap (λ (z : List ℕ). is_rule fill (plus ∷ (l ++ z))) q ∙ ap (λ (z : List ℕ). is_rule fill (plus ∷ z)) (sym (append_assoc l (b ∷ []) r)) ∙ h

      -- a `+` closes the part
      close : (l r m : List ℕ) → m ≡ plus ∷ r → no_plus l → is_segment fill l ≡ true → is_rule fill (plus ∷ r) ≡ true → is_rule fill (plus ∷ (l ++ m)) ≡ true
      close l r m q free segment h = ap (λ (z : List ℕ). is_rule fill (plus ∷ (l ++ z))) q ∙ rule-of-segments fill l r free ∙ and_intro segment h

      rest-is : (x n b : ℕ) → β (x + 1) ≡ b → Rest (x + 1) (suc n) ≡ b ∷ Rest (x + 1 + 1) n
      unfolding range
      rest-is x n b e = ap (λ (z : ℕ). z ∷ Rest (x + 1 + 1) n) e

      run : (n x : ℕ) (s : State) → x + suc n ≡ width → Stands s x → is_rule fill (plus ∷ (part_of s ++ Rest (x + 1) n)) ≡ true
      unfolding Stands part_of range is_rule parts_at_plus closed_segments
      run zero x corner l h = refl
      run zero x opened l h = absurd (omega (arith, last-plus x (omega arith), h.3))
      run zero x (running a k) l h = absurd (not_plus (sym h ∙ last-plus x (omega arith)))
      run zero x (closed a k) l h = absurd (omega (arith, last-plus x (omega arith), h.3))
      run (suc n) x corner l h =
          ⊎_elim (λ (e : β (x + 1) ≡ fill). onward [] fill (Rest (x + 1 + 1) n) _ (rest-is x n fill e) (run n (x + 1) (running false 0) (omega arith) e))
          (λ (e : β (x + 1) ≡ colon). onward [] colon (Rest (x + 1 + 1) n) _ (rest-is x n colon e) (run n (x + 1) opened (omega arith) (x, refl, h, e))) (R.after_plus x (omega arith) h)
      run (suc n) x opened l (z, q, h, k) =
          let e : β (x + 1) ≡ fill = rw q (R.after-opening z (omega arith) h (rw q at k)) in
          onward (colon ∷ []) fill (Rest (x + 1 + 1) n) _ (rest-is x n fill e) (run n (x + 1) (running true 0) (omega arith) e)
      run (suc n) x (running a k) l h =
          ⊎_elim
          (λ (e : β (x + 1) ≡ fill).
          onward (opening a ++ replicate (suc k) fill) fill (Rest (x + 1 + 1) n) _ (rest-is x n fill e)
          (ap (λ (z : List ℕ). is_rule fill (plus ∷ (z ++ Rest (x + 1 + 1) n))) (grown a k) ∙ run n (x + 1) (running a (suc k)) (omega arith) e))
          (⊎_elim
          (λ (e : β (x + 1) ≡ colon).
          onward (opening a ++ replicate (suc k) fill) colon (Rest (x + 1 + 1) n) _ (rest-is x n colon e) (run n (x + 1) (closed a k) (omega arith) (x, refl, h, e)))
          (λ (e : β (x + 1) ≡ plus).
          close (opening a ++ replicate (suc k) fill) (Rest (x + 1 + 1) n) _ (rest-is x n plus e) (running-no-plus a k) (running-segment a k) (run n (x + 1) corner (omega arith) e)))
          (R.after-fill x (omega arith) h) where
            grown : (a : Bool) (k : ℕ) → (opening a ++ replicate (suc k) fill) ++ fill ∷ [] ≡ opening a ++ replicate (suc (suc k)) fill
            grown a k =
                append_assoc (opening a) (replicate (suc k) fill) (fill ∷ [])
                ∙ ap (λ (z : List ℕ). opening a ++ z) (snoc-fill k [] ∙ append-nil (replicate (suc (suc k)) fill))
      run (suc n) x (closed a k) l (z, q, h, c) =
          let e : β (x + 1) ≡ plus = rw q (R.after-closing z (omega arith) h (rw q at c)) in
          close ((opening a ++ replicate (suc k) fill) ++ colon ∷ []) (Rest (x + 1 + 1) n) _ (rest-is x n plus e) (closed-no-plus a k) (closed-segment a k) (run n (x + 1) corner (omega arith) e)

      pub rule-of-bytes : 0 < width → is_rule fill (map β (up_to width)) ≡ true
      unfolding range part_of Stands
      rule-of-bytes p =
          let e : width ≡ suc (width - 1) = omega arith in
          ap (λ (n : ℕ). is_rule fill (map β (range 0 n))) e ∙ ap (λ (b : ℕ). is_rule fill (b ∷ map β (range (0 + 1) (width - 1)))) R.begins
          ∙ run (width - 1) 0 corner (omega arith) R.begins

-- ---- the part up to the next `+`
pub to_plus-of-bytes : (β : ℕ → ℕ) (k a n : ℕ) → a ≤ n → n < a + k → ((i : ℕ) → a ≤ i → i < n → β i ≡ plus → ⊥) → β n ≡ plus
    → to_plus (map β (range a k)) ≡ map β (range a (n - a))
unfolding to_plus range
to_plus-of-bytes β zero a n u w none here = absurd (omega arith)
to_plus-of-bytes β (suc k) a n u w none here =
    ⊎_elim
    (λ (e : a ≡ n).
    let z : n - a ≡ 0 = omega arith in
    let p : β a ≡ plus = ap β e ∙ here in
    rw (p, z))
    (λ (l : a < n).
    let z : n - a ≡ suc (n - (a + 1)) = omega arith in
    rw (ne_eqb (β a) plus (none a (le_refl a) l), z)
    (ap (λ (r : List ℕ). β a ∷ r) (to_plus-of-bytes β k (a + 1) n (omega arith) (omega arith) (λ i p q. none i (omega arith) q) here)))
    (eq-or-lt_of_le u)

-- ---- no rule, by its second byte
module _ (fill z : ℕ) (not_fill : z ≡ fill → ⊥) (not_colon : z ≡ colon → ⊥) (not_plus : z ≡ plus → ⊥) where
  no-fill : (l : List ℕ) → fills fill (z ∷ l) ≡ false
  unfolding fills all
  no-fill l = rw (ne_eqb z fill not_fill)

  no-segment : (part : List ℕ) → fills fill (drop_trailing_colon (z ∷ part)) ≡ false
  unfolding drop_trailing_colon
  no-segment [] = rw (ne_eqb z colon not_colon) (no-fill [])
  no-segment (b ∷ part) = no-fill (drop_trailing_colon (b ∷ part))

  pub second-no-rule : (b : ℕ) (rest : List ℕ) → is_rule fill (b ∷ z ∷ rest) ≡ false
  unfolding is_rule parts_at_plus closed_segments is_segment
  second-no-rule b rest = rw (ne_eqb z plus not_plus) (go (eqb b plus) (parts_at_plus rest)) where
    closes : (parts : List (List ℕ)) → closed_segments fill (onto_first z parts) ≡ false
    closes [] = refl
    closes (part ∷ []) = refl
    closes (part ∷ next ∷ parts) = rw (ne_eqb z colon not_colon, no-segment part)

    go : (t : Bool) (parts : List (List ℕ)) → t && closed_segments fill (onto_first z parts) ≡ false
    go t parts = rw (closes parts) (and-false t)
