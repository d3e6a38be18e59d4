-- The cell call from the traced rectangles on: 13, 12 or the cut lines.
use Rattle.std.specs.Prelude.{ℕ, cond, leb, Result}
use mathlib.Core.List.{List}
use Rattle.grid.specs.Answer.{Answer, refuse_if}
use Rattle.grid.specs.CutCall.{CutNumbers}
use Rattle.representation.specs.TableParts.{cuts_count_of, cuts_array_of}
use Rattle.refusals.specs.declared.Refusal.{Refusal}
use Rattle.refusals.specs.Refusal.{answer_from}

-- "What a call gives back"
abbrev pub cell_answer_of : Result ℕ Refusal → Answer ℕ
cell_answer_of r = answer_from (λ (lines : ℕ). lines) r

-- "a cell number asked for is past the end": 13, before 12
abbrev pub cell_count_of : ℕ → ℕ → List CutNumbers → List ℕ → Answer ℕ
cell_count_of n k cuts out = refuse_if (leb n k) 13 (cuts_count_of cuts out)

abbrev pub cell_array_of : ℕ → ℕ → List CutNumbers → List ℕ → List ℕ
cell_array_of n k cuts out = cond (leb n k) out (cuts_array_of cuts out)
