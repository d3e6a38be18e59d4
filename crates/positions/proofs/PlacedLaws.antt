-- What reading a drawing with its line and byte numbers leaves at each of its returns.
use Prim.Native.Nat.{ℕ, ◌≤◌}
use mathlib.Core.Path.{◌≡◌, refl, sym, ◌∙◌}
use mathlib.Core.Bool.{Bool, true, false, not, ◌&&◌, ◌||◌}
use mathlib.Core.List.{List}
use native.Mathlib.Omega.{arith}
use lib.Dec.{eqb, ltb}
use lib.ListN.{length}
use borrow.Author.Tests.{ltb-false, eqb-true, not-false}
use Rattle.seq.proofs.Tests.{and_left, and_right, or-neither}
use Rattle.grid.specs.Limits.{max_lines, max_register}
use Rattle.grid.specs.Answer.{Answer, accept, refuse, refuse_if}
use Rattle.grid.specs.Values.{Rect}
use Rattle.grid.specs.Read.{read_rects}
use Rattle.grid.specs.Flat.{FlatDrawing, drawing_contradicts, lines_of}
use Rattle.grid.specs.LayoutCall.{LayoutSpace, space_short}
use Rattle.representation.specs.LayoutParts.{rects_answer}
use Rattle.reading.specs.Agreement.{any_over}
use Rattle.reading.proofs.limits.LimitLaws.{none-over-limit}
use Rattle.sourcepos.specs.PositionsCall.{FlatPlaced, placed, placed_contradicts, numbers_too_large}
use Rattle.positions.specs.Needs.{PlacedSheet}
use Rattle.positions.specs.Parts.{placed_check, placed_rects}
use Rattle.positions.proofs.checks.CheckLaws.{numbers-lengths, numbers_too_large-told, contradicts-told}

-- ---- a chain of two checks, and what comes after it
passed_both : (a b : Bool) → ◌≡◌ {A = Answer (Unit {0})} (accept tt) (refuse_if a 13 (refuse_if b 2 (accept tt))) → (a ≡ false) × (b ≡ false)
passed_both true b e = cc
passed_both false true e = cc
passed_both false false e = (refl, refl)

stopped : (a b : Bool) {number place : ℕ} (next : Answer (List Rect)) → ◌≡◌ {A = Answer (Unit {0})} (refuse number place) (refuse_if a 13 (refuse_if b 2 (accept tt)))
    → refuse number place ≡ refuse_if a 13 (refuse_if b 2 next)
stopped true b next e = cc
stopped false true next e = cc
stopped false false next e = cc

module _ (w : LayoutSpace) (starts : ℕ) (d : FlatDrawing) (numbers table_bytes : List ℕ) where
  abbrev given : FlatPlaced
  given = placed d numbers table_bytes

  abbrev apart : Bool
  apart = not (eqb (length numbers) d.lines && eqb (length table_bytes) d.lines)

  pub placed-refused : {number place : ℕ} → refuse number place ≡ placed_check w starts given → refuse number place ≡ placed_rects w starts given
  unfolding placed_rects
  placed-refused e = stopped (placed_contradicts w starts given) (numbers_too_large given) (read_rects (lines_of d)) e

  module _ (complete : accept tt ≡ placed_check w starts given) where
    passed : (placed_contradicts w starts given ≡ false) × (numbers_too_large given ≡ false)
    passed = passed_both (placed_contradicts w starts given) (numbers_too_large given) complete

    spaced : (drawing_contradicts d || space_short w || ltb starts max_lines ≡ false) × (apart ≡ false)
    spaced = or-neither (drawing_contradicts d || space_short w || ltb starts max_lines) apart (sym (contradicts-told w starts d numbers table_bytes) ∙ passed.0)

    roomy : (drawing_contradicts d || space_short w ≡ false) × (ltb starts max_lines ≡ false)
    roomy = or-neither (drawing_contradicts d || space_short w) (ltb starts max_lines) spaced.0

    agree : (drawing_contradicts d ≡ false) × (space_short w ≡ false)
    agree = or-neither (drawing_contradicts d) (space_short w) roomy.0

    numbered : (length numbers ≡ d.lines) × (length table_bytes ≡ d.lines)
    numbered =
        let both = not-false (eqb (length numbers) d.lines && eqb (length table_bytes) d.lines) spaced.1 in (
          eqb-true (length numbers) d.lines (and_left (eqb (length numbers) d.lines) (eqb (length table_bytes) d.lines) both),
          eqb-true (length table_bytes) d.lines (and_right (eqb (length numbers) d.lines) (eqb (length table_bytes) d.lines) both),
        )

    pub same-rects : rects_answer w d ≡ placed_rects w starts given
    unfolding placed_rects rects_answer
    same-rects = rw (passed.0, passed.1, agree.0, agree.1)

    pub placed-sheet : length d.lengths ≤ max_lines → PlacedSheet d.lengths numbers table_bytes starts
    placed-sheet few =
        let lengths = numbers-lengths d numbers table_bytes agree.0 numbered.0 numbered.1 in
        let over = numbers_too_large-told d numbers table_bytes agree.0 numbered.0 numbered.1 in
        let low = or-neither (any_over max_register numbers) (any_over max_register table_bytes) (sym over ∙ passed.1) in
        record {
          numbered = record { few = omega (arith, lengths); agree = omega (arith, lengths); low = none-over-limit max_register table_bytes low.1 };
          agree = lengths.0;
          start_room = ltb-false starts max_lines roomy.1;
        }
