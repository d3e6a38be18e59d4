-- Laws of the checks up to the width.
use Prim.Native.Nat.{ℕ, zero, suc, ◌+◌, ◌-◌, ◌≤◌, ◌<◌}
use mathlib.Core.Path.{◌≡◌, refl, sym, ap, ◌∙◌}
use mathlib.Core.Bool.{Bool, true, false, not}
use mathlib.Core.List.{List, [], ◌∷◌}
use native.Mathlib.Omega.{arith}
use lib.Dec.{ltb}
use lib.ListN.{length, get_or, take, drop}
use borrow.Author.Tests.{not-false}
use Rattle.seq.specs.Lists.{sum, first_at, is_empty}
use Rattle.std.proofs.lemmas.Bool.Decides.{nat_tests}
use Rattle.seq.proofs.Gathered.{sum-within}
use Rattle.text.specs.declared.Column.{Column}
use Rattle.text.specs.Utf8.{well_formed, plain}
use Rattle.text.specs.Trim.{trim_end}
use Rattle.text.specs.Rule.{is_rule}
use Rattle.text.specs.Lines.{no_text}
use Rattle.text.proofs.TrimmedLaws.{rule-plain}
use Rattle.grid.specs.Answer.{accept, refuse, refuse_if}
use Rattle.grid.specs.Values.{Line}
use Rattle.grid.specs.Slots.{trimmed_at}
use Rattle.grid.specs.Read.{drawing_too_large, outside_set, no_rule}
use Rattle.grid.specs.Flat.{FlatDrawing, drawing_contradicts, split_text, lines_with, lines_from, lines_of}
use Rattle.representation.specs.LayoutParts.{width_answer}
use Rattle.reading.specs.Agreement.{Agree, WithinLimits}
use Rattle.reading.specs.Checks.{place_of, LinesScanned}
use Rattle.std.proofs.Common.{Option, Some, None, sum_by}
use Rattle.std.proofs.lemmas.List.Recursion.{is_sum_by}
use Rattle.slots.specs.Scan.{SheetScanned}
use Rattle.grid.proofs.FlatLaws.{split_at}
use Rattle.reading.proofs.limits.LimitLaws.{large-limited}

-- ---- a line of a text back to back, which begins after the bytes of those before it
pub lengths-summed : (lengths : List ℕ) → sum lengths ≡ sum_by (λ n. n) lengths
unfolding sum
lengths-summed lengths = is_sum_by sum (λ n. n) refl (λ n ns. refl) lengths

module _ (lengths text : List ℕ) (at y : ℕ) (before : at ≡ sum (take y lengths)) where
  pub line-end : sum lengths ≡ length text → at + get_or lengths y 0 ≤ length text
  line-end e = omega (arith, sum-within lengths y)

  pub line-trimmed : (r : List ℕ) → y < length lengths → r ≡ trim_end (take (at + get_or lengths y 0 - at) (drop at text)) → r ≡ trim_end (get_or (split_text lengths text) y no_text)
  line-trimmed r h e =
      let k : at + get_or lengths y 0 - at ≡ get_or lengths y 0 = omega arith in
      rw (split_at lengths text y h, ← before) (rw k at e)

-- ---- lines and their texts
outside-lines : (texts : List (List ℕ)) (columns : List ℕ) (at : ℕ) → first_at (λ (line : Line). not (well_formed line.text)) at (lines_with texts columns) ≡ first_at (λ line. not (well_formed line)) at texts
unfolding lines_with first_at
outside-lines [] columns at = refl
outside-lines (t ∷ ts) columns at = rw (outside-lines ts (drop 1 columns) (at + 1))

pub trimmed-text : (texts : List (List ℕ)) (columns : List ℕ) (y : ℕ) → trimmed_at (lines_with texts columns) y ≡ trim_end (get_or texts y no_text)
unfolding lines_with
trimmed-text [] columns y = refl
trimmed-text (t ∷ ts) columns zero = refl
trimmed-text (t ∷ ts) columns (suc y) = trimmed-text ts (drop 1 columns) y

empty-lines : (lengths columns text : List ℕ) → length lengths ≡ 0 → is_empty (lines_from lengths columns text) ≡ true
unfolding split_text lines_with
empty-lines [] columns text e = refl
empty-lines (n ∷ ns) columns text e = absurd (omega arith)

lines_left : (lengths columns text : List ℕ) → 0 < length lengths → is_empty (lines_from lengths columns text) ≡ false
unfolding split_text lines_with
lines_left [] columns text h = absurd (omega arith)
lines_left (n ∷ ns) columns text h = refl

-- ---- the checks in their order
module _ (d : FlatDrawing) (a : Bool) (told : a ≡ drawing_contradicts d) where
  pub width-contradicted : a ≡ true → refuse 13 0 ≡ width_answer d
  unfolding width_answer
  width-contradicted t = rw (← told, t)

  module _ (sized : a ≡ false) where
    pub drawing_contradicts-sizes : (length d.lengths ≡ d.lines) × (length d.columns ≡ d.lines) × (length d.text ≡ d.bytes) × (sum d.lengths ≡ d.bytes)
    unfolding drawing_contradicts
    drawing_contradicts-sizes = grind (arith, nat_tests)

    pub adds-up : sum d.lengths ≡ length d.text
    adds-up = omega (arith, drawing_contradicts-sizes)

    pub drawing_contradicts-agree : Agree d.lengths d.columns d.text
    drawing_contradicts-agree = record { columns_agree = omega (arith, drawing_contradicts-sizes); bytes_agree = adds-up }

    pub width-no-lines : d.lines ≡ 0 → refuse 1 0 ≡ width_answer d
    unfolding width_answer lines_of
    width-no-lines z = let e : length d.lengths ≡ 0 = omega (arith, drawing_contradicts-sizes) in rw (← told, sized, empty-lines d.lengths d.columns d.text e)

    module _ (some-lines : d.lines ≡ 0 → ⊥) where
      pub some-length : 0 < length d.lengths
      some-length = omega (arith, drawing_contradicts-sizes)

      some_of : is_empty (lines_of d) ≡ false
      unfolding lines_of
      some_of = lines_left d.lengths d.columns d.text some-length

      module _ (b : Bool) (large-told : b ≡ drawing_too_large (lines_of d)) where
        pub width-large : b ≡ true → refuse 2 0 ≡ width_answer d
        unfolding width_answer
        width-large t = rw (← told, sized, some_of, ← large-told, t)

        pub large-limits : b ≡ false → WithinLimits d.lengths d.columns d.text
        large-limits small = large-limited d drawing_contradicts-agree (sym large-told ∙ small)

        module _ (small : b ≡ false) (glyphs offsets counts : List ℕ) (p : Option ℕ) (scanned : LinesScanned d.lengths d.columns d.text glyphs offsets counts p) where
          outside_told : outside_set (lines_of d) ≡ place_of p
          unfolding outside_set lines_of
          outside_told = outside-lines (split_text d.lengths d.text) d.columns 0 ∙ sym scanned.told

          pub width-outside : (y : ℕ) → p ≡ Some y → refuse 3 y ≡ width_answer d
          unfolding width_answer
          width-outside y e = rw (← told, sized, some_of, ← large-told, small, outside_told, e)

          module _ (inside : p ≡ None) (top : List ℕ) (top-told : top ≡ trim_end (get_or (split_text d.lengths d.text) 0 no_text)) (r : Bool) (Rule-told : r ≡ is_rule 0x2d top) where
            trimmed-told : trimmed_at (lines_of d) 0 ≡ top
            unfolding lines_of
            trimmed-told = trimmed-text (split_text d.lengths d.text) d.columns 0 ∙ sym top-told

            rest-told : width_answer d ≡ refuse_if (not r) 4 (refuse_if (ltb 128 (length top)) 2 (accept (length top)))
            unfolding width_answer no_rule
            rest-told = rw (← told, sized, some_of, ← large-told, small, outside_told, inside, trimmed-told, Rule-told)

            pub width-no-rule : not r ≡ true → refuse 4 0 ≡ width_answer d
            width-no-rule e = rw (rest-told, e)

            module _ (width : Column) (width-told : width.0 ≡ length top) (w : Bool) (wide-told : w ≡ ltb 128 width.0) (rule : not r ≡ false) where
              wide : w ≡ ltb 128 (length top)
              wide = wide-told ∙ ap (ltb 128) width-told

              pub width-too-wide : w ≡ true → refuse 2 0 ≡ width_answer d
              width-too-wide h = rw (rest-told, rule, ← wide, h)

              pub width-measured : w ≡ false → accept width.0 ≡ width_answer d
              width-measured h = ap accept width-told ∙ rw (rest-told, rule, ← wide, h)

              pub width-scanned : SheetScanned (lines_of d) glyphs offsets counts
              unfolding lines_of
              width-scanned = scanned.known (ap place_of inside)

              pub width-plain : plain (trimmed_at (lines_of d) 0) ≡ true
              width-plain = ap plain trimmed-told ∙ rule-plain 0x2d refl top (sym Rule-told ∙ not-false r rule)

-- a rule is plain
pub rule-told-plain : (top : List ℕ) (r : Bool) → r ≡ is_rule 0x2d top → not r ≡ false → plain top ≡ true
rule-told-plain top r told rule = rule-plain 0x2d refl top (sym told ∙ not-false r rule)
