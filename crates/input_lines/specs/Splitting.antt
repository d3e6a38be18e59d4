-- What splitting an input leaves.
use Rattle.std.specs.Prelude.{ℕ, ◌≤◌, ◌≡◌, true, List, [], ◌∷◌, ◌++◌, length, take, drop, Result, Ok, Err}
use Rattle.seq.specs.Lists.{sum}
use Rattle.text.specs.Rule.{onto_first}
use Rattle.grid.specs.Flat.{split_text}
use Rattle.grid.specs.Read.{drawing_too_large}
use Rattle.grid.specs.Listing.{split_lines, lines_read}
use Rattle.refusals.specs.declared.Refusal.{Refusal}
use Rattle.refusals.specs.declared.Refusal.TheVariants.{TooLarge}
use Rattle.input_lines.specs.declared.Lines.{Lines}

-- the lines of the input stand in the arrays
pub record Held (input lengths text : List ℕ) (lines bytes : ℕ) : Type 0 where
  pub few_lines : lines ≤ 128
  pub few_bytes : bytes ≤ 32768
  pub whole : sum (take lines lengths) ≡ bytes
  pub split : split_text (take lines lengths) (take bytes text) ≡ split_lines input

-- the lines stand in the arrays, or the input passes a limit
abbrev pub Splits : List ℕ → List ℕ → List ℕ → Result Lines Refusal → Type 0
Splits input lengths text (Ok held) = Held input lengths text held.lines held.bytes
Splits input lengths text (Err refusal) = (refusal ≡ TooLarge) × (drawing_too_large (lines_read input) ≡ true)

-- the lines up to the input's byte `at` stand in the arrays
pub record Splitting (input lengths text : List ℕ) (lines bytes at : ℕ) : Type 0 where
  pub few_lines : lines ≤ 128
  pub few_bytes : bytes ≤ 32768
  pub lengths_room : length lengths ≡ 128
  pub text_room : length text ≡ 32768
  pub whole : sum (take lines lengths) ≡ bytes
  pub rest : split_text (take lines lengths) (take bytes text) ++ split_lines (drop at input) ≡ split_lines input

-- a line's bytes before the lines that follow it
unfoldable pub onto : List ℕ → List (List ℕ) → List (List ℕ)
onto [] lines = lines
onto (b ∷ bs) lines = onto_first b (onto bs lines)
