-- The answers of the register calls, in the terms of the definitions.
use Rattle.std.specs.Prelude.{ℕ, Option, Result, Ok, Err}
use Rattle.std.proofs.Math.Option as math
use Rattle.grid.specs.Answer.{Answer}
use Rattle.refusals.specs.declared.Refusal.{Refusal}
use Rattle.refusals.specs.Refusal.{answer_from}
use Rattle.sourcepos.specs.declared.CellLineEnd.{CellLineEnd}
use Rattle.line_ends.specs.Search.{option_of}

abbrev pub add_answer_of : Result ℕ Refusal → Answer ℕ
add_answer_of result = answer_from (λ count. count) result

-- how many ends the register holds after the answer
abbrev pub count_after : Result ℕ Refusal → ℕ → ℕ
count_after (Ok count) before = count
count_after (Err refusal) before = before

abbrev pub find_answer_of : Result (Option ℕ) Refusal → Answer (math.Option ℕ)
find_answer_of result = answer_from option_of result

abbrev pub remap_answer_of : Result CellLineEnd Refusal → Answer CellLineEnd
remap_answer_of result = answer_from (λ end. end) result
