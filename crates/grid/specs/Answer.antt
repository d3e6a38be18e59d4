-- Document 01, "What a call gives back": "0 is acceptance. A refusal gives its number and a place, counted from 0."
use Rattle.std.specs.Prelude.{ℕ, Bool, true, false, List, ◌++◌, length, drop}
use Rattle.std.proofs.Math.Option.{Option, none, some}

pub data Answer (A : Type 0) : Type 0 where
  accept : A → Answer A
  refuse : ℕ → ℕ → Answer A

module _ {A : Type 0} where
  -- a check: its number at place 0 where the test holds, else the checks after it
  abbrev pub refuse_if : Bool → ℕ → Answer A → Answer A
  refuse_if true number next = refuse number 0
  refuse_if false number next = next

  -- a check that looks for the first place at fault
  abbrev pub refuse_at : Option ℕ → ℕ → Answer A → Answer A
  refuse_at (some place) number next = refuse number place
  refuse_at none number next = next

module _ {A B : Type 0} where
  abbrev pub and_then : Answer A → (A → Answer B) → Answer B
  and_then (accept a) next = next a
  and_then (refuse number place) next = refuse number place

  -- what holds after a call: by the accepted value, or as it was
  abbrev pub afterwards : Answer A → (A → B) → B → B
  afterwards (accept a) new old = new a
  afterwards (refuse number place) new old = old

-- "An accepted call leaves output bytes past its result as they were."
abbrev pub over : List ℕ → List ℕ → List ℕ
over result buffer = result ++ drop (length result) buffer
