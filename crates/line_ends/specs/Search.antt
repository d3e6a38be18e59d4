-- A register as it is lent, and an end that is found or not.
use Rattle.std.specs.Prelude.{ℕ, ◌≤◌, length, Option, Some, None}
use Rattle.std.proofs.Math.Option as math
use Rattle.sourcepos.specs.LineEndCalls as calls
use Rattle.sourcepos.specs.declared.CellLineEnd.{CellLineEnd}
use Rattle.line_ends.specs.declared.Register.{Register}

abbrev pub register_of : Register → calls.Register
register_of g = calls.register g.count g.lines.now g.starts.now g.eols.now

-- the arrays hold so many ends
pub record Held (g : calls.Register) : Type 0 where
  pub line_room : g.count ≤ length g.lines
  pub start_room : g.count ≤ length g.starts
  pub eol_room : g.count ≤ length g.eols

-- an end by its number, or none
abbrev pub last_at : calls.Register → Option ℕ → math.Option CellLineEnd
last_at g (Some i) = math.some (calls.end_at g i)
last_at g None = math.none

module _ {A : Type 0} where
  abbrev pub option_of : Option A → math.Option A
  option_of (Some a) = math.some a
  option_of None = math.none
