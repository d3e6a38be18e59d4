-- What a drawing has passed once its width is answered, and what working space that is not short has.
use Prim.Native.Nat.{ℕ, ◌≤◌}
use mathlib.Core.Path.{◌≡◌, refl, sym}
use mathlib.Core.Bool.{false}
use mathlib.Core.Option.{none}
use mathlib.Core.List.{List}
use native.Mathlib.Omega.{arith}
use lib.Dec.{ltb}
use lib.ListN.{length}
use borrow.Author.Tests.{ltb-false}
use Rattle.seq.specs.Lists.{is_empty}
use Rattle.std.proofs.lemmas.Bool.Decides.{nat_tests}
use Rattle.grid.specs.Answer.{accept, refuse_if, refuse_at}
use Rattle.grid.specs.Limits.{max_bytes, max_width}
use Rattle.grid.specs.Slots.{trimmed_at}
use Rattle.grid.specs.Read.{drawing_too_large, outside_set, no_rule}
use Rattle.grid.specs.Flat.{FlatDrawing, drawing_contradicts, lines_of}
use Rattle.grid.specs.LayoutCall.{slot_space, rect_space, space_short, spaces}
use Rattle.representation.specs.LayoutParts.{width_answer}
use Rattle.grid.proofs.ReadLaws.{passed-if, passed-at}
use Rattle.reading.specs.Agreement.{Agree, WithinLimits}
use Rattle.reading.proofs.limits.LimitLaws.{large-limited}
use Rattle.representation.specs.Sheet.{Sheet}
use Rattle.reading.proofs.CheckedLaws.{drawing_contradicts-agree}

-- ---- a drawing whose width is answered
module _ (d : FlatDrawing) (width : ℕ) (e : accept width ≡ width_answer d) where
  checks : (drawing_contradicts d ≡ false) × (drawing_too_large (lines_of d) ≡ false) × (outside_set (lines_of d) ≡ none)
      × (ltb max_width (length (trimmed_at (lines_of d) 0)) ≡ false) × (width ≡ length (trimmed_at (lines_of d) 0))
  unfolding width_answer
  checks =
      let all = lines_of d in
      let last = accept (length (trimmed_at all 0)) in
      let wide = refuse_if (ltb max_width (length (trimmed_at all 0))) 2 last in
      let four = refuse_if (no_rule all) 4 wide in
      let three = refuse_at (outside_set all) 3 four in
      let two = refuse_if (drawing_too_large all) 2 three in
      let one = refuse_if (is_empty all) 1 two in
      let p0 = passed-if (drawing_contradicts d) 13 one width (sym e) in
      let p1 = passed-if (is_empty all) 1 two width p0.1 in
      let p2 = passed-if (drawing_too_large all) 2 three width p1.1 in
      let p3 = passed-at (outside_set all) 3 four width p2.1 in
      let p4 = passed-if (no_rule all) 4 wide width p3.1 in
      let pw = passed-if (ltb max_width (length (trimmed_at all 0))) 2 last width p4.1 in
      let same : ◌≡◌ last (accept width) = pw.1 in
      (p0.0, p2.0, p3.0, pw.0, cc)

  agreed : Agree d.lengths d.columns d.text
  agreed = drawing_contradicts-agree d false (sym checks.0) refl

  limited : WithinLimits d.lengths d.columns d.text
  limited = large-limited d agreed checks.1

  pub sheet-passed : Sheet d.lengths d.columns d.text
  unfolding lines_of
  sheet-passed =
      record {
        columns_agree = agreed.columns_agree;
        bytes_agree = agreed.bytes_agree;
        few_lines = limited.few_lines;
        short_lines = limited.short_lines;
        near_columns = limited.near_columns;
        in_set = checks.2;
      }

  pub bytes-few : length d.text ≤ max_bytes
  bytes-few = limited.few_bytes

  pub width-told : width ≡ length (trimmed_at (lines_of d) 0)
  width-told = checks.4

  pub width_fits : width ≤ 128
  width_fits = omega (arith, checks.4, ltb-false max_width (length (trimmed_at (lines_of d) 0)) checks.3)

-- ---- working space that is not short
module _ (glyphs offsets down right rects : List ℕ) (enough : space_short (spaces glyphs offsets down right rects) ≡ false) where
  pub space_short-rooms : (slot_space ≤ length glyphs) × (slot_space ≤ length offsets) × (slot_space ≤ length down) × (slot_space ≤ length right) × (rect_space ≤ length rects)
  unfolding space_short
  space_short-rooms = grind (arith, nat_tests)
