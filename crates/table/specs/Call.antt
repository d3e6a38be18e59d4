-- The answer and arrays of the table call, in the terms of the definitions.
use Rattle.std.specs.Prelude.{ℕ, List, Result}
use Rattle.grid.specs.Answer.{Answer}
use Rattle.grid.specs.Flat as flat
use Rattle.refusals.specs.declared.Refusal.{Refusal}
use Rattle.refusals.specs.Refusal.{answer_from}
use Rattle.table.specs.declared.TableSizes.{TableSizes}

-- the values of an accepted table
abbrev pub sizes_of : TableSizes → flat.TableSizes
sizes_of s = record { columns = s.columns; rows = s.rows; cells = s.cells; lines = s.lines; bytes = s.bytes }

-- "What a call gives back"
abbrev pub answer_of : Result TableSizes Refusal → Answer flat.TableSizes
answer_of r = answer_from sizes_of r

-- the arrays as lent
abbrev pub arrays : List ℕ → List ℕ → List ℕ → List ℕ → List ℕ → flat.TableArrays
arrays columns sections cells lengths text = record { columns = columns; sections = sections; cells = cells; lengths = lengths; text = text }
