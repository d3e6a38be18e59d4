-- The lines of an input as the drawing that a call gets.
use Prim.Native.Nat.{ℕ, zero, suc, ◌+◌, ◌-◌, ◌≤◌}
use mathlib.Core.Path.{◌≡◌, refl, ap, sym, ◌∙◌}
use mathlib.Core.Bool.{Bool, true, false}
use mathlib.Core.List.{List, [], ◌∷◌}
use native.Mathlib.Omega.{arith}
use lib.ListN.{length, take, drop, get_or, replicate, length-take, length-replicate}
use lib.Seq.{get_or-drop, length-take-le}
use borrow.Author.Tests.{eq-eqb, le-ltb}
use Rattle.seq.specs.Lists.{sum, any}
use Rattle.seq.proofs.Tests.{true-not-false}
use Rattle.grid.specs.Answer.{refuse}
use Rattle.grid.specs.Values.{Line}
use Rattle.grid.specs.Listing.{lines_read}
use Rattle.grid.specs.Read.{drawing_too_large, read_rects, read_layout}
use Rattle.grid.specs.Flat.{FlatDrawing, drawing_contradicts, split_text, lines_with, lines_of}
use Rattle.grid.specs.LayoutCall.{LayoutSpace, space_short, drawing, spaces}
use Rattle.grid.proofs.FlatLaws.{length-lines}
use Rattle.input_lines.specs.Splitting.{Held, Splits}
use Rattle.input_lines.specs.Sheet.{lines_at0}
use Rattle.std.specs.Prelude.{Result, Ok, Err}
use Rattle.refusals.specs.declared.Refusal.{Refusal}
use Rattle.refusals.specs.declared.Refusal.TheVariants.{TooLarge}
use Rattle.input_lines.specs.declared.Lines.{Lines}

-- The drawing that is handed in

zero-lines : (texts : List (List ℕ)) (columns : List ℕ) → ((i : ℕ) → get_or columns i 0 ≡ 0) → lines_with texts columns ≡ lines_at0 texts
unfolding lines_with
zero-lines [] columns zeros = refl
zero-lines (t ∷ texts) columns zeros =
    rw (zeros 0) (ap (λ (l : List Line). record { text = t; column = 0 } ∷ l) (zero-lines texts (drop 1 columns) (λ i. get_or-drop 1 columns i 0 ∙ zeros (1 + i))))

abbrev pub zeroes : ℕ → List ℕ
zeroes k = replicate k 0

pub length-zeroes : (k : ℕ) → length (zeroes k) ≡ k
length-zeroes k = length-replicate k 0

zeros-taken : (n k i : ℕ) → get_or (take n (zeroes k)) i 0 ≡ 0
zeros-taken zero k zero = refl
zeros-taken zero k (suc i) = refl
zeros-taken (suc n) zero zero = refl
zeros-taken (suc n) zero (suc i) = refl
zeros-taken (suc n) (suc k) zero = refl
zeros-taken (suc n) (suc k) (suc i) = zeros-taken n k i

lines-at-0 : (n b k j : ℕ) (lengths text : List ℕ) → lines_of (drawing n b lengths (take k (zeroes j)) text) ≡ lines_at0 (split_text lengths text)
unfolding lines_of
lines-at-0 n b k j lengths text = zero-lines (split_text lengths text) (take k (zeroes j)) (zeros-taken k j)

agrees : (lengths origins text : List ℕ) → length origins ≡ length lengths → sum lengths ≡ length text
    → drawing_contradicts (drawing (length lengths) (length text) lengths origins text) ≡ false
unfolding drawing_contradicts
agrees lengths origins text h k =
    rw (
      eq-eqb (length lengths) (length lengths) refl,
      eq-eqb (length origins) (length lengths) h,
      eq-eqb (length text) (length text) refl,
      eq-eqb (sum lengths) (length text) k,
    )

module _ (lengths text : List ℕ) where
  abbrev pub sheet_of : FlatDrawing
  sheet_of = drawing (length lengths) (length text) lengths (take (length lengths - 0) (zeroes 128)) text

  pub sheet-agrees : length lengths ≤ 128 → sum lengths ≡ length text → drawing_contradicts sheet_of ≡ false
  sheet-agrees few whole =
      let long : length (take (length lengths - 0) (zeroes 128)) ≡ length lengths =
      length-take-le (length lengths - 0) (zeroes 128) (omega (arith, length-zeroes 128)) ∙ omega arith
      in
      agrees lengths (take (length lengths - 0) (zeroes 128)) text long whole

  pub sheet-lines : lines_of sheet_of ≡ lines_at0 (split_text lengths text)
  sheet-lines = lines-at-0 (length lengths) (length text) (length lengths - 0) 128 lengths text

  pub lines-counted : length (lines_of sheet_of) ≡ length lengths
  unfolding lines_of
  lines-counted = length-lines lengths (take (length lengths - 0) (zeroes 128)) text

-- Fresh working space, as a call names it

abbrev pub fresh_space : LayoutSpace
fresh_space = spaces (zeroes 16384) (zeroes 16384) (zeroes 16384) (zeroes 16384) (zeroes 4096)

pub fresh-enough : space_short fresh_space ≡ false
unfolding space_short
fresh-enough =
    rw (
      le-ltb (length (zeroes 16384)) 16384 (omega (arith, length-zeroes 16384)),
      le-ltb (length (zeroes 4096)) 4096 (omega (arith, length-zeroes 4096)),
    )

-- Input that passes a limit

pub too-large-refused : (lines : List Line) → drawing_too_large lines ≡ true → read_layout lines ≡ refuse 2 0
unfolding read_layout read_rects drawing_too_large any sum
too-large-refused [] h = let z : ◌≡◌ {A = Bool} false true = h in absurd (true-not-false (sym z))
too-large-refused (line ∷ lines) h = rw h

-- What splitting told

pub split-refused : (input lengths text : List ℕ) (r : Result Lines Refusal) (refusal : Refusal) → r ≡ Err refusal → Splits input lengths text r
    → (refusal ≡ TooLarge) × (read_layout (lines_read input) ≡ refuse 2 0)
split-refused input lengths text r refusal e h =
    let told : Splits input lengths text (Err refusal) = rw e at h in (told.0, too-large-refused (lines_read input) told.1)

pub split-held : (input lengths text : List ℕ) (r : Result Lines Refusal) (l : Lines) → r ≡ Ok l → Splits input lengths text r → Held input lengths text l.lines l.bytes
split-held input lengths text r l e h = rw e at h

module _ (input lengths text : List ℕ) (r : Result Lines Refusal) (l : Lines) (e : r ≡ Ok l) (rooms : (length lengths ≡ 128) × (length text ≡ 32768)) (h : Splits input lengths text r) where
  abbrev lines : ℕ
  lines = l.lines

  abbrev bytes : ℕ
  bytes = l.bytes

  held : Held input lengths text lines bytes
  held = split-held input lengths text r l e h

  pub lines_fit : lines ≤ length lengths
  lines_fit = omega (arith, rooms.0, held.few_lines)

  pub bytes_fit : bytes ≤ length text
  bytes_fit = omega (arith, rooms.1, held.few_bytes)

  pub parts-agree : (length (take (lines - 0) lengths) ≤ 128) × (sum (take (lines - 0) lengths) ≡ length (take (bytes - 0) text))
  parts-agree =
      let same : lines - 0 ≡ lines = omega arith in
      let also : bytes - 0 ≡ bytes = omega arith in
      rw (same, also) (omega (arith, length-take lines lengths, held.few_lines), held.whole ∙ sym (length-take-le bytes text bytes_fit))
