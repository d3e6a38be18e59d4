-- The arguments of the calls in the terms of the definitions.
use Rattle.std.specs.Prelude.{ℕ}
use Rattle.sourcepos.specs.declared.CellLineEnd.{CellLineEnd}

-- the end to add or to move
abbrev pub end_given : (line start eol : ℕ) → CellLineEnd
end_given line start eol = record { line = line; start = start; eol = eol }
