-- An answer whose refusal has a number and a place.
use Rattle.std.specs.Prelude.{ℕ, Result, Ok, Err}
use Rattle.grid.specs.Answer.{Answer, accept, refuse}
use Rattle.refusals.specs.Refusal.{number_of, place_of}
use Rattle.refusals.specs.declared.Refusal.{Refusal}
use Rattle.replies.specs.declared.refused.Refused.{Refused}

abbrev pub refused_of : Refusal → Refused
refused_of r = record { number = number_of r; place = place_of r }

module _ {A B R : Type 0} where
  -- what the answer of a call stands for, by the number and the place of a refusal and by what a value is read as
  abbrev pub answer_told : (number place : R → ℕ) → (A → B) → Result A R → Answer B
  answer_told number place value (Ok a) = accept (value a)
  answer_told number place value (Err r) = refuse (number r) (place r)
