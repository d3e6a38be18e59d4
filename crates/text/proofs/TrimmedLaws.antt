-- A line and the same line trimmed: `well_formed-trim`, `plain-trim`. A rule is plain: `rule-plain`.
use Prim.Native.Nat.{ℕ}
use mathlib.Core.Path.{◌≡◌, refl, sym, ap, ◌∙◌}
use mathlib.Core.Logic.{⊎_elim}
use mathlib.Core.Bool.{Bool, true, false, not, ◌&&◌, cond}
use mathlib.Core.List.{List, [], ◌∷◌, ◌++◌}
use native.Mathlib.Omega.{arith}
use lib.Dec.{eqb}
use lib.ListN.{length, drop, take-append-drop}
use borrow.Author.Tests.{eqb-true}
use Rattle.seq.specs.Lists.{within, all, is_empty}
use Rattle.seq.proofs.Tests.{true-not-false, bool_same, or_cases, both_true, and_intro, and_left, and_right}
use Rattle.text.specs.Characters.{space, tab, plus, colon, width_of, in_set}
use Rattle.text.specs.Trim.{blank, before_trimmed, trim_end}
use Rattle.text.specs.Utf8.{decoded, character, well_from, well_formed, plain}
use Rattle.text.specs.Rule.{parts_at_plus, onto_first, drop_leading_colon, drop_trailing_colon, fills, is_segment, closed_segments, is_rule}
use Rattle.text.proofs.PlainLaws.{plain-take}
use Rattle.text.proofs.TrimLaws.{trim-prefix}
use Rattle.text.proofs.PartLaws.{well-trimmed}
use Rattle.text.proofs.SpanLaws.{well-append}

-- ---- what trimming drops is blank
trim-drops : (s : List ℕ) → all blank (drop (length (trim_end s)) s) ≡ true
unfolding trim_end all
trim-drops [] = refl
trim-drops (b ∷ bs) = go (trim_end bs) (trim-drops bs) where
  go : (t : List ℕ) → all blank (drop (length t) bs) ≡ true → all blank (drop (length (before_trimmed b t)) (b ∷ bs)) ≡ true
  go [] later = ends (blank b) refl where
    ends : (t : Bool) → blank b ≡ t → all blank (drop (length (cond t [] (b ∷ []))) (b ∷ bs)) ≡ true
    ends true e = and_intro e later
    ends false e = later
  go (c ∷ cs) later = later

blanks-well : (s : List ℕ) → all blank s ≡ true → well_formed s ≡ true
unfolding well_from all character decoded in_set width_of
blanks-well [] e = refl
blanks-well (b ∷ bs) e =
    let (here, later) = both_true (blank b) (all blank bs) e in
    ⊎_elim (λ (h : eqb b space ≡ true). rw (eqb-true b space h) (blanks-well bs later)) (λ (h : eqb b tab ≡ true). rw (eqb-true b tab h) (blanks-well bs later))
    (or_cases (eqb b space) (eqb b tab) here)

trim-apart : (s : List ℕ) → trim_end s ++ drop (length (trim_end s)) s ≡ s
trim-apart s = ap (λ (l : List ℕ). l ++ drop (length (trim_end s)) s) (trim-prefix s) ∙ take-append-drop (length (trim_end s)) s

pub well_formed-trim : (s : List ℕ) → well_formed (trim_end s) ≡ well_formed s
well_formed-trim s =
    bool_same (well_formed (trim_end s)) (well_formed s)
    (λ w. ap well_formed (sym (trim-apart s)) ∙ well-append 0 (trim_end s) (drop (length (trim_end s)) s) (omega arith) w ∙ blanks-well (drop (length (trim_end s)) s) (trim-drops s))
    (well-trimmed s)

pub plain-trim : (s : List ℕ) → plain s ≡ true → plain (trim_end s) ≡ true
plain-trim s e = rw (trim-prefix s) (plain-take (length (trim_end s)) s e)

-- ---- the bytes of a rule
byte-plain : (b c : ℕ) → eqb b c ≡ true → within 0x20 0x7e c ≡ true → within 0x20 0x7e b ≡ true
byte-plain b c e h = rw (eqb-true b c e) h

leading-plain : (s : List ℕ) → plain (drop_leading_colon s) ≡ true → plain s ≡ true
unfolding plain all
leading-plain [] e = refl
leading-plain (b ∷ bs) e = go (eqb b colon) refl e where
  go : (t : Bool) → eqb b colon ≡ t → plain (cond t bs (b ∷ bs)) ≡ true → within 0x20 0x7e b && plain bs ≡ true
  go true is e = and_intro (byte-plain b colon is refl) e
  go false is e = e

trailing-plain : (s : List ℕ) → plain (drop_trailing_colon s) ≡ true → plain s ≡ true
unfolding plain all drop_trailing_colon
trailing-plain [] e = refl
trailing-plain (b ∷ []) e = go (eqb b colon) refl e where
  go : (t : Bool) → eqb b colon ≡ t → plain (cond t [] (b ∷ [])) ≡ true → within 0x20 0x7e b && true ≡ true
  go true is e = and_intro (byte-plain b colon is refl) refl
  go false is e = e
trailing-plain (b ∷ c ∷ cs) e =
    let (here, later) = both_true (within 0x20 0x7e b) (plain (drop_trailing_colon (c ∷ cs))) e in and_intro here (trailing-plain (c ∷ cs) later)

module _ (fill : ℕ) (filling : within 0x20 0x7e fill ≡ true) where
  fills_plain : (s : List ℕ) → all (λ b. eqb b fill) s ≡ true → plain s ≡ true
  unfolding plain all
  fills_plain [] e = refl
  fills_plain (b ∷ bs) e =
      let (here, later) = both_true (eqb b fill) (all (λ b. eqb b fill) bs) e in
      and_intro (byte-plain b fill here filling) (fills_plain bs later)

  segment-plain : (part : List ℕ) → is_segment fill part ≡ true → plain part ≡ true
  unfolding is_segment fills
  segment-plain part e =
      let rest = drop_trailing_colon (drop_leading_colon part) in
      leading-plain part (trailing-plain (drop_leading_colon part) (fills_plain rest (and_right (not (is_empty rest)) (all (λ b. eqb b fill) rest) e)))

  parts-plain : (parts : List (List ℕ)) → closed_segments fill parts ≡ true → all plain parts ≡ true
  unfolding closed_segments all plain
  parts-plain [] e = refl
  parts-plain ([] ∷ []) e = refl
  parts-plain ((b ∷ bs) ∷ []) e = absurd (true-not-false (sym e))
  parts-plain (part ∷ next ∷ parts) e =
      let (here, later) = both_true (is_segment fill part) (closed_segments fill (next ∷ parts)) e in
      and_intro (segment-plain part here) (parts-plain (next ∷ parts) later)

  joined-plain : (s : List ℕ) → all plain (parts_at_plus s) ≡ true → plain s ≡ true
  unfolding parts_at_plus all plain
  joined-plain [] e = refl
  joined-plain (b ∷ bs) e = go (eqb b plus) refl (parts_at_plus bs) (joined-plain bs) e where
    go : (t : Bool) → eqb b plus ≡ t → (parts : List (List ℕ)) → (all plain parts ≡ true → plain bs ≡ true)
        → all plain (cond t ([] ∷ parts) (onto_first b parts)) ≡ true → within 0x20 0x7e b && plain bs ≡ true
    go true is parts later e = and_intro (byte-plain b plus is refl) (later e)
    go false is [] later e = and_intro (and_left (within 0x20 0x7e b) true (and_left _ true e)) (later refl)
    go false is (part ∷ parts) later e =
        let (first, rest) = both_true (within 0x20 0x7e b && plain part) (all plain parts) e in
        let (here, more) = both_true (within 0x20 0x7e b) (plain part) first in
        and_intro here (later (and_intro more rest))

  pub rule-plain : (s : List ℕ) → is_rule fill s ≡ true → plain s ≡ true
  unfolding is_rule plain all
  rule-plain [] e = refl
  rule-plain (b ∷ bs) e =
      let (here, later) = both_true (eqb b plus) (closed_segments fill (parts_at_plus bs)) e in
      and_intro (byte-plain b plus here refl) (joined-plain bs (parts-plain (parts_at_plus bs) later))
