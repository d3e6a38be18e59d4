-- What reading leaves of a drawing whose width is answered, in space enough.
use Prim.Native.Nat.{ℕ, ◌≤◌}
use mathlib.Core.Path.{◌≡◌, sym, ◌∙◌}
use mathlib.Core.Bool.{Bool, true, false}
use mathlib.Core.List.{List}
use native.Mathlib.Omega.{arith}
use lib.ListN.{length}
use Rattle.std.specs.Prelude.{Result, IfOk}
use Rattle.std.proofs.lemmas.Result.{IfOk-weaker}
use Rattle.text.specs.declared.Column.{Column}
use Rattle.text.specs.Utf8.{plain}
use Rattle.grid.specs.Answer.{accept, refuse}
use Rattle.grid.specs.Slots.{grid_of, trimmed_at}
use Rattle.grid.specs.Flat.{FlatDrawing, lines_of}
use Rattle.grid.specs.LayoutCall.{space_short, slot_space, rect_space, spaces}
use Rattle.refusals.specs.Refusal.{answer_from}
use Rattle.refusals.specs.declared.Refusal.{Refusal}
use Rattle.representation.specs.LayoutParts.{rects_answer, width_answer, grid_answer}
use Rattle.representation.proofs.LayoutPartsLaws.{short-rects, unwide-rects, wide-rects}
use Rattle.slots.specs.Filling.{Fillable}
use Rattle.slots.specs.Scan.{SheetScanned}
use Rattle.reading.specs.declared.Reading.{Reading}
use Rattle.reading.specs.Call.{Through, TracedSheet, sheet_of, lines_in, rects_in}
use Rattle.reading.proofs.WidthLaws.{sheet-passed, bytes-few, width-told, width_fits, space_short-rooms}

-- ---- in the space that a caller lends
module _ (d : FlatDrawing) (glyphs₀ offsets₀ down right rects₀ : List ℕ) (b : Bool) (short : b ≡ space_short (spaces glyphs₀ offsets₀ down right rects₀)) where
  pub without-space : b ≡ true → refuse 13 0 ≡ rects_answer (spaces glyphs₀ offsets₀ down right rects₀) d
  without-space is-short = sym (short-rects (spaces glyphs₀ offsets₀ down right rects₀) d (sym short ∙ is-short))

  module _ (enough : b ≡ false) where
    pub without-width : {number place : ℕ} → refuse number place ≡ width_answer d → refuse number place ≡ rects_answer (spaces glyphs₀ offsets₀ down right rects₀) d
    without-width answered = sym (unwide-rects (spaces glyphs₀ offsets₀ down right rects₀) d (sym short ∙ enough) answered)

    room : (slot_space ≤ length glyphs₀) × (slot_space ≤ length offsets₀) × (slot_space ≤ length down) × (slot_space ≤ length right) × (rect_space ≤ length rects₀)
    room = space_short-rooms glyphs₀ offsets₀ down right rects₀ (sym short ∙ enough)

    pub checks-room : (slot_space ≤ length glyphs₀) × (slot_space ≤ length offsets₀) × (128 ≤ length rects₀)
    checks-room = (room.0, room.1, omega (arith, room.4))

    -- ---- a width that is answered: glyphs₁, offsets₁ and rects₁ as the checks leave them
    module _ (glyphs₁ offsets₁ rects₁ : List ℕ) (kept : (length glyphs₁ ≡ length glyphs₀) × (length offsets₁ ≡ length offsets₀) × (length rects₁ ≡ length rects₀))
        (width : Column) (answered : accept width.0 ≡ width_answer d) where
      pub width-traceable : SheetScanned (lines_of d) glyphs₁ offsets₁ rects₁ → plain (trimmed_at (lines_of d) 0) ≡ true
          → Fillable d.lengths d.columns d.text width.0 rects₁ glyphs₁ offsets₁ × ((slot_space ≤ length down) × (slot_space ≤ length right) × (rect_space ≤ length rects₁))
      unfolding lines_of
      width-traceable scanned plain_top =
          let sheet = sheet-passed d width.0 answered in (
            record {
              sheet = sheet;
              roomy =
                  record {
                    height_fits = sheet.few_lines;
                    width_fits = width_fits d width.0 answered;
                    glyph_room = rw kept.0 room.0;
                    offset_room = rw kept.1 room.1;
                  };
              count_room = rw kept.2 (omega (arith, room.4));
              wide = width-told d width.0 answered;
              plain_top = plain_top;
              scanned = scanned;
            },
            (room.2, room.3, rw kept.2 room.4),
          )

      told : width.0 ≡ (grid_of (lines_of d)).width
      unfolding grid_of
      told = width-told d width.0 answered

      module _ (glyphs offsets rects : List ℕ) (still : (length glyphs ≡ length glyphs₁) × (length offsets ≡ length offsets₁) × (length rects ≡ length rects₁)) (r : Result Reading Refusal) where
        traced-sheet : (s : Reading) → Through (grid_of (lines_in (sheet_of d glyphs offsets rects))) glyphs offsets rects s → TracedSheet (sheet_of d glyphs offsets rects) s
        unfolding lines_of
        traced-sheet s through =
            let sheet = sheet-passed d width.0 answered in
            record {
              sheet = sheet;
              few_bytes = bytes-few d width.0 answered;
              roomy =
                  record {
                    height_fits = sheet.few_lines;
                    width_fits = omega (arith, through.wide, told, width_fits d width.0 answered);
                    glyph_room = rw (still.0, kept.0) room.0;
                    offset_room = rw (still.1, kept.1) room.1;
                  };
              rect_room = rw (still.2, kept.2) room.4;
              through = through;
            }

        pub read-told : answer_from (λ (s : Reading). rects_in (sheet_of d glyphs offsets rects) s.cells) r ≡ grid_answer (grid_of (lines_in (sheet_of d glyphs offsets rects)))
            → IfOk r (λ s. Through (grid_of (lines_in (sheet_of d glyphs offsets rects))) glyphs offsets rects s)
            → (answer_from (λ (s : Reading). rects_in (sheet_of d glyphs offsets rects) s.cells) r ≡ rects_answer (spaces glyphs₀ offsets₀ down right rects₀) d)
            × IfOk r (λ s. TracedSheet (sheet_of d glyphs offsets rects) s)
        unfolding lines_of
        read-told answer through = (
          answer ∙ sym (wide-rects (spaces glyphs₀ offsets₀ down right rects₀) d (sym short ∙ enough) answered),
          IfOk-weaker r _ _ traced-sheet through,
        )
