-- Laws of the checks before reading's own.
use Prim.Native.Nat.{ℕ}
use mathlib.Core.Path.{◌≡◌, refl}
use mathlib.Core.Bool.{false, not, ◌&&◌, ◌||◌}
use mathlib.Core.List.{List, [], ◌∷◌}
use native.Mathlib.Omega.{arith}
use lib.ListN.{length}
use lib.Dec.{eqb, ltb}
use Rattle.seq.specs.Lists.{is_empty, any}
use Rattle.grid.specs.Limits.{max_lines, max_register}
use Rattle.grid.specs.Flat.{FlatDrawing, drawing_contradicts, split_text, lines_with, lines_from, lines_of}
use Rattle.grid.specs.LayoutCall.{LayoutSpace, space_short}
use Rattle.grid.specs.TableCall.{starts_short}
use Rattle.reading.specs.Agreement.{any_over}
use Rattle.reading.proofs.CheckedLaws.{drawing_contradicts-sizes}
use Rattle.sourcepos.specs.PositionsCall.{placed, placed_contradicts, numbers_too_large}

-- a drawing with no lines has no numbers
over-lines : (lengths columns text numbers table_bytes : List ℕ) → (length numbers ≡ length lengths) × (length table_bytes ≡ length lengths)
    → not (is_empty (lines_from lengths columns text)) && (any_over max_register numbers || any_over max_register table_bytes) ≡ any_over max_register numbers || any_over max_register table_bytes
unfolding split_text lines_with any_over any
over-lines [] columns text [] [] e = refl
over-lines [] columns text (n ∷ ns) bytes e = absurd (omega (arith, e.0))
over-lines [] columns text [] (b ∷ bs) e = absurd (omega (arith, e.1))
over-lines (l ∷ ls) columns text numbers bytes e = refl

module _ (d : FlatDrawing) (numbers table_bytes : List ℕ) (agree : drawing_contradicts d ≡ false) (numbered : length numbers ≡ d.lines) (placed_bytes : length table_bytes ≡ d.lines) where
  pub numbers-lengths : (length numbers ≡ length d.lengths) × (length table_bytes ≡ length d.lengths)
  numbers-lengths =
      let sized = (drawing_contradicts-sizes d (drawing_contradicts d) refl agree).0 in
      (omega arith, omega arith)

  pub numbers_too_large-told : numbers_too_large (placed d numbers table_bytes) ≡ any_over max_register numbers || any_over max_register table_bytes
  unfolding numbers_too_large lines_of any_over
  numbers_too_large-told = over-lines d.lengths d.columns d.text numbers table_bytes numbers-lengths

pub contradicts-told : (w : LayoutSpace) (starts : ℕ) (d : FlatDrawing) (numbers table_bytes : List ℕ)
    → placed_contradicts w starts (placed d numbers table_bytes)
    ≡ drawing_contradicts d || space_short w || ltb starts max_lines || not (eqb (length numbers) d.lines && eqb (length table_bytes) d.lines)
unfolding placed_contradicts starts_short
contradicts-told w starts d numbers table_bytes = refl
