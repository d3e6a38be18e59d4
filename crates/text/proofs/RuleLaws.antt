-- Laws of specs/Rule.antt.
use Prim.Native.Nat.{ℕ, suc, ◌+◌, ◌-◌, ◌≤◌, ◌<◌}
use mathlib.Core.Path.{◌≡◌, refl, sym, ap, ◌∙◌}
use mathlib.Core.Logic.{◌⊎◌, inl, inr}
use mathlib.Core.Bool.{Bool, true, false, not, ◌&&◌, ◌||◌, cond}
use mathlib.Core.List.{List, [], ◌∷◌, ◌++◌}
use native.Mathlib.Numerals.{add-one}
use native.Mathlib.Omega.{arith}
use lib.Dec.{eqb}
use lib.ListN.{length, take, drop, take-append-drop}
use borrow.Author.Tests.{eqb-true, eqb-false, ne_eqb, lt-ltb, le-ltb, not-true, not-false}
use Rattle.seq.proofs.Tests.{true-not-false}
use Rattle.seq.specs.Lists.{all, any, is_empty}
use Rattle.seq.proofs.ListsLaws.{part_to_end}
use Rattle.text.specs.Characters.{plus, colon}
use Rattle.std.specs.Prelude.{Option, None, Some, MatchOption, unwrap_or, position}
use Rattle.std.specs.List.{list_all, position_or_len}
use Rattle.std.specs.Cmp.Lexicographic.{same_text, other_text}
use denote.Ref.{Bor}
use lib.Pointwise.{pointwise}
use Rattle.seq.proofs.Tests.{le-or-lt}
use Rattle.text.specs.Rule.{to_plus, parts_at_plus, onto_first, drop_trailing_colon, fills, is_segment, closed_segments, is_rule}

-- ---- to the first `+`
to_plus-length : (s : List ℕ) → length (to_plus s) ≡ position_or_len (λ b. eqb b plus) s
unfolding to_plus
to_plus-length [] = refl
to_plus-length (b ∷ bs) = go (eqb b plus) (to_plus-length bs) where
  go : (t : Bool) → length (to_plus bs) ≡ position_or_len (λ b. eqb b plus) bs → length (cond t [] (b ∷ to_plus bs)) ≡ cond (not t) (1 + position_or_len (λ b. eqb b plus) bs) 0
  go true later = refl
  go false later = omega arith

to_plus-shorter : (s : List ℕ) → length (to_plus s) ≤ length s
unfolding to_plus
to_plus-shorter [] = omega arith
to_plus-shorter (b ∷ bs) = go (eqb b plus) (to_plus-shorter bs) where
  go : (t : Bool) → length (to_plus bs) ≤ length bs → length (cond t [] (b ∷ to_plus bs)) ≤ suc (length bs)
  go true later = omega arith
  go false later = omega arith

pub plus-found : (s : List ℕ) → unwrap_or (position (λ b. eqb b plus) s) (length s) ≡ length (to_plus s)
plus-found s = go (le-or-lt (length s) (position_or_len (λ b. eqb b plus) s)) ∙ sym (to_plus-length s) where
  go : (length s ≤ position_or_len (λ b. eqb b plus) s) ⊎ (position_or_len (λ b. eqb b plus) s < length s)
      → unwrap_or (position (λ b. eqb b plus) s) (length s) ≡ position_or_len (λ b. eqb b plus) s
  go (inl past) = rw (le-ltb (position_or_len (λ b. eqb b plus) s) (length s) past) (omega (arith, to_plus-length s, to_plus-shorter s))
  go (inr here) = rw (lt-ltb (position_or_len (λ b. eqb b plus) s) (length s) here)

-- ---- the parts between
pub parts_none : (s : List ℕ) → length s ≤ length (to_plus s) → parts_at_plus s ≡ s ∷ []
unfolding parts_at_plus to_plus
parts_none [] h = refl
parts_none (b ∷ bs) h = go (eqb b plus) (λ k. parts_none bs k) h where
  go : (t : Bool) → (length bs ≤ length (to_plus bs) → parts_at_plus bs ≡ bs ∷ []) → suc (length bs) ≤ length (cond t [] (b ∷ to_plus bs)) → cond t ([] ∷ parts_at_plus bs) (onto_first b (parts_at_plus bs)) ≡ (b ∷ bs) ∷ []
  go true later h = absurd (omega arith)
  go false later h = ap (onto_first b) (later (omega arith))

-- the first part with n bytes, and the line after its `+`
abbrev FirstPart : ℕ → List ℕ → Type 0
FirstPart n s = parts_at_plus s ≡ take n s ∷ parts_at_plus (drop (suc n) s)

first_part : (s : List ℕ) → length (to_plus s) < length s → FirstPart (length (to_plus s)) s
unfolding parts_at_plus to_plus
first_part [] h = absurd (omega arith)
first_part (b ∷ bs) h = go (eqb b plus) (λ k. first_part bs k) h where
  go : (t : Bool) → (length (to_plus bs) < length bs → FirstPart (length (to_plus bs)) bs) → length (cond t [] (b ∷ to_plus bs)) < suc (length bs) → cond t ([] ∷ parts_at_plus bs) (onto_first b (parts_at_plus bs)) ≡ take (length (cond t [] (b ∷ to_plus bs))) (b ∷ bs) ∷ parts_at_plus (drop (suc (length (cond t [] (b ∷ to_plus bs)))) (b ∷ bs))
  go true later h = refl
  go false later h = ap (onto_first b) (later (omega arith))

pub parts_first : (s : List ℕ) → length (to_plus s) < length s → parts_at_plus s ≡ take (length (to_plus s)) s ∷ parts_at_plus (drop (length (to_plus s) + 1) s)
parts_first s h = rw (add-one (length (to_plus s))) (first_part s h)

pub closed-first : (fill : ℕ) (part s : List ℕ) → closed_segments fill (part ∷ parts_at_plus s) ≡ is_segment fill part && closed_segments fill (parts_at_plus s)
unfolding closed_segments parts_at_plus
closed-first fill part [] = refl
closed-first fill part (b ∷ bs) = go (eqb b plus) (parts_at_plus bs) where
  go : (t : Bool) (parts : List (List ℕ)) → closed_segments fill (part ∷ cond t ([] ∷ parts) (onto_first b parts)) ≡ is_segment fill part && closed_segments fill (cond t ([] ∷ parts) (onto_first b parts))
  go true parts = refl
  go false [] = refl
  go false (p ∷ parts) = refl

-- a line that starts with a segment and its `+`
parts-append : (part s : List ℕ) → any (λ b. eqb b plus) part ≡ false → parts_at_plus (part ++ plus ∷ s) ≡ part ∷ parts_at_plus s
unfolding parts_at_plus any
parts-append [] s h = refl
parts-append (b ∷ bs) s h = go (eqb b plus) (λ k. parts-append bs s k) h where
  go : (t : Bool) → (any (λ b. eqb b plus) bs ≡ false → parts_at_plus (bs ++ plus ∷ s) ≡ bs ∷ parts_at_plus s) → t || any (λ b. eqb b plus) bs ≡ false → cond t ([] ∷ parts_at_plus (bs ++ plus ∷ s)) (onto_first b (parts_at_plus (bs ++ plus ∷ s))) ≡ (b ∷ bs) ∷ parts_at_plus s
  go true later h = absurd (true-not-false h)
  go false later h = ap (onto_first b) (later h)

pub rule-of-segments : (fill : ℕ) (part s : List ℕ) → any (λ b. eqb b plus) part ≡ false → is_rule fill (plus ∷ part ++ plus ∷ s) ≡ is_segment fill part && is_rule fill (plus ∷ s)
unfolding is_rule
rule-of-segments fill part s h = rw (parts-append part s h) (closed-first fill part s)

-- ---- colons
pub drop-colon : (s : List ℕ) → drop_trailing_colon (s ++ colon ∷ []) ≡ s
unfolding drop_trailing_colon
drop-colon [] = refl
drop-colon (a ∷ []) = refl
drop-colon (a ∷ b ∷ s) = ap (λ (l : List ℕ). a ∷ l) (drop-colon (b ∷ s))

keep-other : (s : List ℕ) (b : ℕ) → (b ≡ colon → ⊥) → drop_trailing_colon (s ++ b ∷ []) ≡ s ++ b ∷ []
unfolding drop_trailing_colon
keep-other [] b h = rw (ne_eqb b colon h)
keep-other (a ∷ []) b h = rw (ne_eqb b colon h)
keep-other (a ∷ c ∷ s) b h = ap (λ (l : List ℕ). a ∷ l) (keep-other (c ∷ s) b h)

-- the last byte, stripped where it is a colon
pub no-trailing-colon : (s : List ℕ) → (drop (length s - 1) s ≡ colon ∷ [] → ⊥) → s ≡ drop_trailing_colon s
unfolding drop_trailing_colon
no-trailing-colon [] h = refl
no-trailing-colon (b ∷ []) h = rw (ne_eqb b colon (λ e. h (ap (λ (a : ℕ). a ∷ []) e)))
no-trailing-colon (a ∷ b ∷ s) h =
    let whole : length (a ∷ b ∷ s) - 1 ≡ suc (length s) = omega arith in
    let later : length (b ∷ s) - 1 ≡ length s = omega arith in
    ap (λ (l : List ℕ). a ∷ l) (no-trailing-colon (b ∷ s) (λ e. h (rw whole (rw later at e))))

trailing-colon : (s : List ℕ) → drop (length s - 1) s ≡ colon ∷ [] → take (length s - 1) s ≡ drop_trailing_colon s
trailing-colon s h =
    sym (drop-colon (take (length s - 1) s)) ∙ ap (λ (l : List ℕ). drop_trailing_colon (take (length s - 1) s ++ l)) (sym h) ∙ ap drop_trailing_colon (take-append-drop (length s - 1) s)

pub trailing-colon-stripped : (s : Bor (List ℕ)) (o : Option (Bor (List ℕ)))
    → MatchOption o (pointwise eqb (drop (length s.now - 1) s.now) (colon ∷ []) ≡ false)
    (λ x. (pointwise eqb (drop (length s.now - 1) s.now) (colon ∷ []) ≡ true) × (x.now ≡ take (length s.now - 1) s.now) × (length x.now + 1 ≡ length s.now))
    → (r : Bor (List ℕ)) → r ≡ unwrap_or o s → r.now ≡ drop_trailing_colon s.now
trailing-colon-stripped s None h r is = rw is (no-trailing-colon s.now (other_text (drop (length s.now - 1) s.now) (colon ∷ []) (sym h)))
trailing-colon-stripped s (Some x) h r is = rw (is, h.1) (trailing-colon s.now (same_text (drop (length s.now - 1) s.now) (colon ∷ []) (sym h.0)))

-- ---- fill bytes
module _ (fill : ℕ) (s : List ℕ) (none : Bool) (is : none ≡ eqb (length s) 0) where
  pub fills-none : none ≡ true → not none ≡ fills fill s
  unfolding fills
  fills-none h = rw h (go s (sym is ∙ h)) where
    go : (s : List ℕ) → eqb (length s) 0 ≡ true → false ≡ not (is_empty s) && all (λ b. eqb b fill) s
    go [] h = refl
    go (b ∷ bs) h = absurd (omega (arith, eqb-true (length (b ∷ bs)) 0 h))

  pub fills-all : none ≡ false → (t : Bool) → t ≡ list_all (λ b. eqb b fill) s → t ≡ fills fill s
  unfolding fills all
  fills-all h t told = told ∙ go s (sym is ∙ h) where
    each : (s : List ℕ) → list_all (λ b. eqb b fill) s ≡ all (λ b. eqb b fill) s
    each [] = refl
    each (b ∷ bs) = ap (λ (u : Bool). eqb b fill && u) (each bs)

    go : (s : List ℕ) → eqb (length s) 0 ≡ false → list_all (λ b. eqb b fill) s ≡ not (is_empty s) && all (λ b. eqb b fill) s
    go [] h = absurd (true-not-false h)
    go (b ∷ bs) h = each (b ∷ bs)

-- ---- a rule, segment by segment
module _ (fill : ℕ) (s : List ℕ) where
  pub no-plus-no-rule : pointwise eqb (take 1 s) (plus ∷ []) ≡ false → false ≡ is_rule fill s
  unfolding is_rule
  no-plus-no-rule h = go s h where
    go : (s : List ℕ) → pointwise eqb (take 1 s) (plus ∷ []) ≡ false → false ≡ is_rule fill s
    go [] h = refl
    go (b ∷ bs) h = first (eqb b plus) h where
      first : (t : Bool) → (t && true) ≡ false → false ≡ t && closed_segments fill (parts_at_plus bs)
      first true h = absurd (true-not-false h)
      first false h = refl

  pub rule-starts : pointwise eqb (take 1 s) (plus ∷ []) ≡ true → (rest : List ℕ) → rest ≡ drop 1 s → is_rule fill s ≡ closed_segments fill (parts_at_plus rest)
  unfolding is_rule
  rule-starts h rest is = rw is (go s h) where
    go : (s : List ℕ) → pointwise eqb (take 1 s) (plus ∷ []) ≡ true → is_rule fill s ≡ closed_segments fill (parts_at_plus (drop 1 s))
    go [] h = absurd (true-not-false (sym h))
    go (b ∷ bs) h = first (eqb b plus) h where
      first : (t : Bool) → (t && true) ≡ true → t && closed_segments fill (parts_at_plus bs) ≡ closed_segments fill (parts_at_plus bs)
      first true h = refl
      first false h = absurd (true-not-false (sym h))

  module _ (rest : List ℕ) (so_far : is_rule fill s ≡ closed_segments fill (parts_at_plus rest)) where
    -- nothing is left, or some bytes are
    module _ (none : Bool) (is : none ≡ eqb (length rest) 0) where
      pub rule-ends : none ≡ true → true ≡ is_rule fill s
      unfolding closed_segments parts_at_plus
      rule-ends h = go rest (eqb-true (length rest) 0 (sym is ∙ h)) so_far where
        go : (rest : List ℕ) → length rest ≡ 0 → is_rule fill s ≡ closed_segments fill (parts_at_plus rest) → true ≡ is_rule fill s
        go [] h e = sym e
        go (b ∷ bs) h e = absurd (omega arith)

      pub rule-unclosed : none ≡ false → (end : ℕ) → end ≡ length (to_plus rest) → length rest ≤ end → false ≡ is_rule fill s
      unfolding closed_segments
      rule-unclosed h end e past = rw (so_far, parts_none rest (omega arith)) (go rest (eqb-false (length rest) 0 (sym is ∙ h))) where
        go : (rest : List ℕ) → (length rest ≡ 0 → ⊥) → false ≡ is_empty rest
        go [] h = absurd (h refl)
        go (b ∷ bs) h = refl

    module _ (end : ℕ) (e : end ≡ length (to_plus rest)) (closed : end < length rest) (t : Bool) (f : t ≡ is_segment fill (take end rest)) where
      next : is_rule fill s ≡ t && closed_segments fill (parts_at_plus (drop (end + 1) rest))
      next =
          let first : parts_at_plus rest ≡ take end rest ∷ parts_at_plus (drop (end + 1) rest) = rw e (parts_first rest (omega arith)) in
          so_far ∙ ap (closed_segments fill) first ∙ closed-first fill (take end rest) (drop (end + 1) rest) ∙ rw f

      pub rule-breaks : not t ≡ true → false ≡ is_rule fill s
      rule-breaks g = rw (next, not-true t g)

      pub rule-goes-on : not t ≡ false → is_rule fill s ≡ closed_segments fill (parts_at_plus (take (length rest - (end + 1)) (drop (end + 1) rest)))
      rule-goes-on g = rw (part_to_end rest (end + 1)) (next ∙ rw (not-false t g))
