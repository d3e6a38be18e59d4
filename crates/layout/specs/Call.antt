-- The answer and the arrays of the layout call, in the terms of the definitions.
use Rattle.std.specs.Prelude.{ℕ, List, Result}
use Rattle.grid.specs.Answer.{Answer}
use Rattle.grid.specs.LayoutCall as grid
use Rattle.refusals.specs.Refusal.{answer_from}
use Rattle.refusals.specs.declared.Refusal.{Refusal}
use Rattle.layout.specs.declared.LayoutSizes.{LayoutSizes}

abbrev pub sizes_of : LayoutSizes → grid.LayoutSizes
sizes_of s = record { width = s.width.0; columns = s.columns; rows = s.rows; cells = s.cells; ranges = s.ranges }

-- document 01's number, place and values for each case of the answer
abbrev pub layout_answer_of : Result LayoutSizes Refusal → Answer grid.LayoutSizes
layout_answer_of = answer_from sizes_of

-- the output arrays as lent
abbrev pub layout_lent : List ℕ → List ℕ → List ℕ → List ℕ → grid.LayoutArrays
layout_lent columns rows cells ranges = record { columns = columns; rows = rows; cells = cells; ranges = ranges }
