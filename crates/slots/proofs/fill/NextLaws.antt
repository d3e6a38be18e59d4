-- Laws of one line more: its slots, and its separator noted.
use Prim.Native.Nat.{ℕ, ◌+◌, ◌*◌, ◌≤◌}
use mathlib.Core.Path.{◌≡◌, refl, sym, ◌∙◌}
use mathlib.Core.Logic.{⊎_elim}
use mathlib.Core.Bool.{Bool, true, false, ◌&&◌, ◌||◌, cond}
use mathlib.Core.List.{List, [], ◌∷◌, ◌++◌, append-nil}
use lib.Dec.{eqb, ltb}
use borrow.Author.Tests.{eqb-true, eqb-false, eq-eqb, ne_eqb}
use native.Mathlib.Omega.{arith}
use Rattle.seq.proofs.Tests.{and_right, or_cases, or-neither}
use Rattle.text.specs.Utf8.{plain}
use Rattle.text.specs.Trim.{trim_end}
use Rattle.text.specs.Rule.{is_rule}
use Rattle.text.proofs.TrimmedLaws.{plain-trim, rule-plain}
use Rattle.grid.specs.Slots.{line_slots}
use Rattle.slots.specs.Line.{FilledLine}
use Rattle.slots.specs.Scan.{LineCounted}
use Rattle.slots.specs.Filling.{separates, separator_lines, FilledNext}
use Rattle.slots.specs.declared.Separators.{Separators}

-- line y, noted where it is a separator
module _ (separators separators' : Separators) (y : ℕ) (t : Bool) where
  pub noted-separator : t ≡ true → (separators'.count ≡ separators.count + 1) × (separator_lines separators' ≡ separator_lines separators ++ (y ∷ []))
      → (separators'.count ≤ separators.count + 1) × (separator_lines separators' ≡ separator_lines separators ++ cond t (y ∷ []) [])
  noted-separator e (more, lines) = (omega arith, rw e lines)

  pub noted-none : t ≡ false → separators' ≡ separators
      → (separators'.count ≤ separators.count + 1) × (separator_lines separators' ≡ separator_lines separators ++ cond t (y ∷ []) [])
  noted-none e same = rw (e, same) (omega arith, sym (append-nil _))

-- is a line a rule, whose bytes are its slots?
module _ (y : ℕ) (rule separator : Bool) where
  pub top-rule : y ≡ 0 → rule ≡ eqb y 0 → rule ≡ (eqb y 0 || separator)
  top-rule e is = is ∙ rw (eq-eqb y 0 e)

  pub later-rule : (y ≡ 0 → ⊥) → rule ≡ separator → rule ≡ (eqb y 0 || separator)
  later-rule e is = is ∙ rw (ne_eqb y 0 e)

-- ---- a line as given, trimmed
module _ (text line : List ℕ) (trimmed : line ≡ trim_end text) where
  module _ (y count : ℕ) (separator : Bool) (is : separator ≡ (ltb 0 y && is_rule 0x3d line)) (rule : Bool) (rule-is : rule ≡ (eqb y 0 || separator)) where
    -- a rule is plain, and so is a line that scanning found to be
    pub trimmed-plain : (count ≡ 255 → plain text ≡ true) → (y ≡ 0 → plain (trim_end text) ≡ true) → rule || eqb count 255 ≡ true → plain line ≡ true
    trimmed-plain known top some =
        ⊎_elim
        (λ (rule : eqb y 0 || separator ≡ true).
        ⊎_elim (λ (first : eqb y 0 ≡ true). rw trimmed (top (eqb-true y 0 first)))
        (λ (noted : separator ≡ true). rule-plain 0x3d refl line (and_right (ltb 0 y) (is_rule 0x3d line) (sym is ∙ noted)))
        (or_cases (eqb y 0) separator rule))
        (λ (counted : eqb count 255 ≡ true). rw trimmed (plain-trim text (known (eqb-true count 255 counted))))
        (or_cases (eqb y 0 || separator) (eqb count 255) (rw rule-is at some))

    pub next-filled : (width : ℕ) (separators separators' : Separators) (full : Bool) (glyphs offsets glyphs' offsets' : List ℕ)
        → FilledLine line rule count (y * 128) width glyphs offsets glyphs' offsets' full
        → (separators'.count ≤ separators.count + 1) × (separator_lines separators' ≡ separator_lines separators ++ cond separator (y ∷ []) [])
        → FilledNext text y width count separators glyphs offsets separators' glyphs' offsets' full
    unfolding line_slots
    next-filled width separators separators' full glyphs offsets glyphs' offsets' filled (few, noted) column known =
        let same : separator ≡ separates y text = is ∙ rw trimmed in
        let counted : rule || eqb count 255 ≡ false → LineCounted line column (y * 128) glyphs offsets count =
        λ other. rw trimmed (known.other (eqb-false count 255 (or-neither rule (eqb count 255) other).1)) in
        record {
          line = rw (← same, ← trimmed, ← rule-is) (filled column counted);
          few_separators = few;
          noted = rw (← same) noted;
        }
