-- The lines of an input as a drawing's.
use Rattle.std.specs.Prelude.{ℕ, List, map}
use Rattle.grid.specs.Values.{Line}

-- lines at column 0
abbrev pub lines_at0 : List (List ℕ) → List Line
lines_at0 texts = map (λ t. record { text = t; column = 0 }) texts
