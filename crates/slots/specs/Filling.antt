-- What filling the slots of a drawing leaves.
use Rattle.std.specs.Prelude.{ℕ, ◌+◌, ◌*◌, ◌≤◌, ◌<◌, ◌≡◌, Bool, true, ◌&&◌, ◌||◌, cond, List, [], ◌∷◌, ◌++◌, length, take, eqb, ltb, Result, Ok, Err}
use Rattle.std.proofs.Math.Option.{none, some}
use Rattle.text.specs.Utf8.{plain}
use Rattle.text.specs.Rule.{is_rule}
use Rattle.text.specs.Trim.{trim_end}
use Rattle.grid.specs.Flat.{lines_from}
use Rattle.grid.specs.Slots.{Grid, equals, line_slots, trimmed_at, grid_of}
use Rattle.grid.specs.Read.{wrong_width}
use Rattle.refusals.specs.Refusal.{number_of, place_of}
use Rattle.refusals.specs.declared.Refusal.{Refusal}
use Rattle.representation.specs.Arrays.{Holds, Roomy}
use Rattle.representation.specs.Sheet.{Sheet}
use Rattle.slots.specs.Line.{LineFilled}
use Rattle.slots.specs.Scan.{LineKnown, SheetScanned}
use Rattle.slots.specs.declared.Separators.{Separators}

-- the separators that an array holds
abbrev pub separator_lines : Separators → List ℕ
separator_lines s = take s.count s.lines

-- "each later line that is an `=` rule (a part separator)"
abbrev pub separates : ℕ → List ℕ → Bool
separates y text = ltb 0 y && is_rule equals (trim_end text)

-- line y as scanning left it, with room in the arrays for its slots and its separator
pub record NextRoom (text : List ℕ) (y width count : ℕ) (separators : Separators) (glyphs offsets : List ℕ) : Type 0 where
  pub short_line : length text ≤ 512
  pub plain_line : count ≡ 255 → plain text ≡ true
  pub plain_top : y ≡ 0 → plain (trim_end text) ≡ true
  pub narrow : width ≤ 128
  pub few_lines : y < 128
  pub glyph_room : y * 128 + width ≤ length glyphs
  pub offset_room : y * 128 + width ≤ length offsets
  pub few_separators : separators.count < 128

-- line y's slots, and its separator noted
pub record NextFilled (text : List ℕ) (column y width : ℕ) (separators : Separators) (glyphs offsets : List ℕ)
    (separators' : Separators) (glyphs' offsets' : List ℕ) (full : Bool) : Type 0 where
  pub line : LineFilled (line_slots (eqb y 0 || separates y text) (record { text = text; column = column })) (y * 128) width glyphs offsets glyphs' offsets' full
  pub few_separators : separators'.count ≤ separators.count + 1
  pub noted : separator_lines separators' ≡ separator_lines separators ++ cond (separates y text) (y ∷ []) []

-- a drawing as scanning left it, whose first line is plain and of this width, with room in the arrays
pub record Fillable (lengths columns text : List ℕ) (width : ℕ) (counts glyphs offsets : List ℕ) : Type 0 where
  pub sheet : Sheet lengths columns text
  pub roomy : Roomy (length lengths) width glyphs offsets
  pub count_room : 128 ≤ length counts
  pub wide : width ≡ length (trimmed_at (lines_from lengths columns text) 0)
  pub plain_top : plain (trimmed_at (lines_from lengths columns text) 0) ≡ true
  pub scanned : SheetScanned (lines_from lengths columns text) glyphs offsets counts

-- all lines' slots, of the grid g, and its separators; or 5 with the first line that does not fill the width
pub record AllFilled (g : Grid) (glyphs offsets glyphs' offsets' : List ℕ) (r : Result Separators Refusal) : Type 0 where
  pub glyphs_kept : length glyphs' ≡ length glyphs
  pub offsets_kept : length offsets' ≡ length offsets
  pub wrong : (e : Refusal) → r ≡ Err e → wrong_width g ≡ some (place_of e)
  pub number : (e : Refusal) → r ≡ Err e → number_of e ≡ 5
  pub right : (s : Separators) → r ≡ Ok s → wrong_width g ≡ none
  pub holds : (s : Separators) → r ≡ Ok s → Holds g.rows g.width glyphs' offsets'
  pub separated : (s : Separators) → r ≡ Ok s → separator_lines s ≡ g.separators

-- of whatever columns the lines have with which they were scanned
abbrev pub FilledAll : (lengths text : List ℕ) → ℕ → (counts glyphs offsets glyphs' offsets' : List ℕ) → Result Separators Refusal → Type 0
FilledAll lengths text width counts glyphs offsets glyphs' offsets' r =
    (columns : List ℕ) → Fillable lengths columns text width counts glyphs offsets → AllFilled (grid_of (lines_from lengths columns text)) glyphs offsets glyphs' offsets' r

abbrev pub FilledNext : (text : List ℕ) → ℕ → ℕ → ℕ → Separators → (glyphs offsets : List ℕ) → Separators → (glyphs' offsets' : List ℕ) → Bool → Type 0
FilledNext text y width count separators glyphs offsets separators' glyphs' offsets' full =
    (column : ℕ) → LineKnown text column (y * 128) glyphs offsets count
    → NextFilled text column y width separators glyphs offsets separators' glyphs' offsets' full
