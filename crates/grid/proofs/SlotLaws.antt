-- Laws of the lines and the rows of slots of a drawing that is given as arrays.
use Prim.Native.Nat.{ℕ, zero, suc, ◌<◌}
use mathlib.Core.Path.{◌≡◌, refl, ap, ◌∙◌}
use mathlib.Core.Bool.{true, false, not, ◌||◌}
use mathlib.Core.Option.{none, some}
use mathlib.Core.List.{List, [], ◌∷◌}
use native.Mathlib.Omega.{arith}
use lib.Dec.{eqb}
use lib.ListN.{length, get_or, take, drop, length-map}
use lib.Seq.{drop-drop}
use borrow.Author.Tests.{eq-eqb, not-false}
use Rattle.seq.specs.Lists.{sum, up_to}
use Rattle.seq.proofs.Ranges.{length-range}
use Rattle.seq.proofs.Positions.{get_or-mem, get_or-made}
use Rattle.seq.proofs.Searches.{first_at-none}
use Rattle.seq.proofs.Gathered.{first-at, first-nowhere}
use Rattle.text.specs.Utf8.{well_formed}
use Rattle.grid.specs.Values.{Line, no_line}
use Rattle.grid.specs.Slots.{Slot, line_slots, is_separator, grid_of}
use Rattle.grid.specs.Flat.{split_text, lines_with}
use Rattle.grid.specs.Read.{outside_set, wrong_width}

-- ---- lines from lengths, columns and a text
pub lines-length : (lengths columns text : List ℕ) → length (lines_with (split_text lengths text) columns) ≡ length lengths
unfolding split_text lines_with
lines-length [] columns text = refl
lines-length (n ∷ ns) columns text = ap suc (lines-length ns (drop 1 columns) (drop n text))

next-column : (columns : List ℕ) (y : ℕ) → get_or (drop 1 columns) y 0 ≡ get_or columns (suc y) 0
next-column [] y = refl
next-column (c ∷ cs) y = refl

pub line_at : (lengths columns text : List ℕ) (y : ℕ) (d : Line) → y < length lengths
    → get_or (lines_with (split_text lengths text) columns) y d ≡ record { text = take (get_or lengths y 0) (drop (sum (take y lengths)) text); column = get_or columns y 0 }
unfolding split_text lines_with sum
line_at [] columns text y d h = absurd (omega arith)
line_at (n ∷ ns) columns text zero d h = refl
line_at (n ∷ ns) columns text (suc y) d h =
    line_at ns (drop 1 columns) (drop n text) y d (omega arith) ∙ rw (drop-drop (sum (take y ns)) n text, next-column columns y)

-- check 3 passed, each line is well formed
pub line-well : (lines : List Line) → outside_set lines ≡ none → (y : ℕ) → y < length lines → well_formed (get_or lines y no_line).text ≡ true
unfolding outside_set
line-well lines e y h =
    not-false (well_formed (get_or lines y no_line).text)
    (first_at-none (λ (line : Line). not (well_formed line.text)) 0 lines e (get_or-mem lines y no_line h))

-- ---- the rows of a drawing's grid
module _ (lines : List Line) where
  abbrev pub row_at : ℕ → List Slot
  row_at y = line_slots (eqb y 0 || is_separator lines y) (get_or lines y no_line)

  pub rows-length : length (grid_of lines).rows ≡ length lines
  unfolding grid_of
  rows-length = length-map (up_to (length lines)) row_at ∙ length-range 0 (length lines)

  pub row-at : (y : ℕ) → y < length lines → get_or (grid_of lines).rows y [] ≡ row_at y
  unfolding grid_of
  row-at y h = get_or-made row_at (length lines) y [] h

  -- the first row that does not fill the width, if there is one
  module _ (y : ℕ) (before : (k : ℕ) → k < y → length (row_at k) ≡ (grid_of lines).width) where
    filled : y < length lines → (k : ℕ) → k < y → not (eqb (length (get_or (grid_of lines).rows k [])) (grid_of lines).width) ≡ false
    filled h k low = rw (row-at k (omega arith), eq-eqb (length (row_at k)) (grid_of lines).width (before k low))

    pub wrong_row : y < length lines → eqb (length (row_at y)) (grid_of lines).width ≡ false → wrong_width (grid_of lines) ≡ some y
    unfolding wrong_width
    wrong_row h e =
        first-at (λ (row : List Slot). not (eqb (length row) (grid_of lines).width)) (grid_of lines).rows [] y (rw rows-length h)
        (rw (row-at y h, e)) (filled h)

  pub no-wrong-row : ((k : ℕ) → k < length lines → length (row_at k) ≡ (grid_of lines).width) → wrong_width (grid_of lines) ≡ none
  unfolding wrong_width
  no-wrong-row all =
      first-nowhere (λ (row : List Slot). not (eqb (length row) (grid_of lines).width)) (grid_of lines).rows []
      (λ k h. let low : k < length lines = omega (arith, rows-length) in rw (row-at k low, eq-eqb (length (row_at k)) (grid_of lines).width (all k low)))
