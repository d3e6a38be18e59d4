-- What the checks of a table answer, in the terms of the definitions.
use Rattle.std.specs.Prelude.{Result, Ok, Err}
use Rattle.grid.specs.Answer.{Answer, refuse}
use Rattle.refusals.specs.Refusal.{number_of, place_of}
use Rattle.refusals.specs.declared.Refusal.{Refusal}

-- what is answered where the checks give this, and would be answered without them
abbrev pub after_checks : {A B : Type 0} → Result A Refusal → Answer B → Answer B
after_checks (Ok passed) next = next
after_checks (Err refusal) next = refuse (number_of refusal) (place_of refusal)
