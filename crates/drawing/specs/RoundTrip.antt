-- Demand 3: what redraw's checks are measured by. Document 01: "Drawn at an origin, it reads back as the table that layout and cutting
-- give with that origin as the column of each line, or as none where reading, with space enough, gives one of 1 to 7."
use Rattle.std.specs.Prelude.{◌≡◌, true, false, ℕ}
use Rattle.std.proofs.Math.Option.{none}
use Rattle.grid.specs.Answer.{accept, refuse}
use Rattle.grid.specs.Values.{Table}
use Rattle.grid.specs.Read.{read_table}
use Rattle.grid.specs.Same.{Same}
use Rattle.drawing.specs.GridRules.{keeps_rules}
use Rattle.drawing.specs.Plain.{drawn}
use Rattle.drawing.specs.Redraw.{table_empty, table_too_large, table_outside_set, redraw}

-- a table that passes the checks 1, 2 (of the table and the origin), 3 and 8. Its drawn size is no part of it
pub record Keeps (origin : ℕ) (t : Table) : Type 0 where
  pub not_empty : table_empty t ≡ false
  pub not_too_large : table_too_large origin t ≡ false
  pub in_set : table_outside_set t ≡ none
  pub rules : keeps_rules t ≡ true

-- the plain drawing reads back as the same table
abbrev pub ReadsBack : ℕ → Table → Type 0
ReadsBack origin t = (u : Table) × (read_table (drawn origin t) ≡ accept u) × Same u t

-- redraw refuses, with some number at some place
abbrev pub Refuses : ℕ → Table → Type 0
Refuses origin t = (number : ℕ) × (place : ℕ) × (redraw origin t ≡ refuse number place)
