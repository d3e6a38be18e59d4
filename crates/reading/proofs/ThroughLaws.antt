-- What filling and tracing a drawing give, in the terms of its grid.
use Prim.Native.Nat.{ℕ, ◌≤◌}
use mathlib.Core.Path.{◌≡◌, refl, sym, ◌∙◌}
use mathlib.Core.List.{List}
use lib.ListN.{length}
use Rattle.std.specs.Prelude.{Ok, Err}
use Rattle.text.specs.declared.Column.{Column}
use Rattle.grid.specs.Answer.{accept, refuse}
use Rattle.grid.specs.Slots.{grid_of, trimmed_at}
use Rattle.grid.specs.Trace.{covered, stopped, trace}
use Rattle.grid.specs.Flat.{lines_from}
use Rattle.refusals.specs.Refusal.{number_of, place_of}
use Rattle.refusals.specs.declared.Refusal.{Refusal}
use Rattle.representation.specs.LayoutParts.{grid_answer}
use Rattle.representation.specs.Arrays.{array_grid, rects_of}
use Rattle.grid.proofs.GlyphLaws.{trace-same}
use Rattle.representation.proofs.HoldsLaws.{array_same}
use Rattle.grid.proofs.SlotLaws.{lines-length}
use Rattle.slots.specs.Filling.{AllFilled}
use Rattle.slots.specs.declared.Separators.{Separators}
use Rattle.reading.specs.Call.{Through}

module _ (lengths columns text : List ℕ) {glyphs₀ offsets₀ glyphs offsets : List ℕ} where
  -- a line that does not fill the width
  pub unfilled : (e : Refusal) → AllFilled (grid_of (lines_from lengths columns text)) glyphs₀ offsets₀ glyphs offsets (Err e)
      → refuse (number_of e) (place_of e) ≡ grid_answer (grid_of (lines_from lengths columns text))
  unfolding grid_answer
  unfilled e all = rw (all.wrong e refl, all.number e refl)

  module _ (s : Separators) (all : AllFilled (grid_of (lines_from lengths columns text)) glyphs₀ offsets₀ glyphs offsets (Ok s))
      (width : Column) (is : width.0 ≡ length (trimmed_at (lines_from lengths columns text) 0)) where
    told : width.0 ≡ (grid_of (lines_from lengths columns text)).width
    unfolding grid_of
    told = is

    traced-arrays : trace (array_grid (length lengths) width.0 glyphs) ≡ trace (grid_of (lines_from lengths columns text))
    traced-arrays =
        rw (told, ← lines-length lengths columns text)
        (sym (trace-same (grid_of (lines_from lengths columns text)) _ (array_same (lines_from lengths columns text) glyphs offsets (all.right s refl) (all.holds s refl))))

    -- no cover, or too many cells
    pub untraced : (e : Refusal) → stopped (number_of e) ≡ trace (array_grid (length lengths) width.0 glyphs) → place_of e ≡ 0
        → refuse (number_of e) (place_of e) ≡ grid_answer (grid_of (lines_from lengths columns text))
    unfolding grid_answer
    untraced e stops nowhere = let stopped-too = stops ∙ traced-arrays in rw (nowhere, all.right s refl, ← stopped-too)

    pub traced : (n : ℕ) (rects : List ℕ) → covered (rects_of n rects) ≡ trace (array_grid (length lengths) width.0 glyphs) → n ≤ 1024
        → (accept (rects_of n rects) ≡ grid_answer (grid_of (lines_from lengths columns text)))
        × Through (grid_of (lines_from lengths columns text)) glyphs offsets rects (record { width = width; cells = n; separators = s })
    unfolding grid_answer
    traced n rects covers few =
        let covered-too = covers ∙ traced-arrays in
        let accepted : accept (rects_of n rects) ≡ grid_answer (grid_of (lines_from lengths columns text)) = rw (all.right s refl, ← covered-too) in (
          accepted,
          record {
            accepted = sym accepted;
            wide = told;
            few = few;
            held = all.holds s refl;
            separators_room = s.room;
            few_separators = s.few;
            separated = all.separated s refl;
          },
        )
