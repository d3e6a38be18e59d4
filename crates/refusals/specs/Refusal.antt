-- Document 01, "What a call gives back": the table of refusals, and the answer of a call that gives a value or a refusal.
use Rattle.std.specs.Prelude.{ℕ, Result, Ok, Err, codes}
use Rattle.std.specs.Fmt.{decimal}
use mathlib.Core.List.{List, ◌++◌}
use Rattle.grid.specs.Answer.{Answer, accept, refuse}
use Rattle.refusals.specs.declared.Refusal.{Refusal}
use Rattle.refusals.specs.declared.Refusal.TheVariants.{Empty, TooLarge, OutsideSet, NoRule, WrongWidth, NoCover, TooManyCells}
use Rattle.refusals.specs.declared.Refusal.TheVariants.{RuleBroken, FootWithoutHead, NoCorner, WouldSplit, OutputShort, Contradiction, RegisterFull}

-- "No."
abbrev pub number_of : Refusal → ℕ
number_of Empty = 1
number_of TooLarge = 2
number_of (OutsideSet line) = 3
number_of NoRule = 4
number_of (WrongWidth line) = 5
number_of NoCover = 6
number_of TooManyCells = 7
number_of RuleBroken = 8
number_of FootWithoutHead = 9
number_of (NoCorner column) = 10
number_of (WouldSplit cell) = 11
number_of OutputShort = 12
number_of Contradiction = 13
number_of RegisterFull = 14

-- "Place"
abbrev pub place_of : Refusal → ℕ
place_of Empty = 0
place_of TooLarge = 0
place_of (OutsideSet line) = line
place_of NoRule = 0
place_of (WrongWidth line) = line
place_of NoCover = 0
place_of TooManyCells = 0
place_of RuleBroken = 0
place_of FootWithoutHead = 0
place_of (NoCorner column) = column
place_of (WouldSplit cell) = cell
place_of OutputShort = 0
place_of Contradiction = 0
place_of RegisterFull = 0

-- "A refusal prints `refused`, number, place.", without the line feed
abbrev pub refusal_text : Refusal → List ℕ
refusal_text e = codes "refused " ++ decimal (number_of e) ++ codes " " ++ decimal (place_of e)

module _ {A B : Type 0} where
  -- the answer of a call that gives a value or a refusal, where the value is read as a value of the definitions
  abbrev pub answer_from : (A → B) → Result A Refusal → Answer B
  answer_from value (Ok a) = accept (value a)
  answer_from value (Err e) = refuse (number_of e) (place_of e)
