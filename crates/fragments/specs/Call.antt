-- The arguments and answers of the cutting calls, in the terms of the definitions. Document 01, "Cutting".
use Rattle.std.specs.Prelude.{Result}
use Rattle.grid.specs.Answer.{Answer}
use Rattle.grid.specs.Values.{Line, Range}
use Rattle.grid.specs.CutCall.{CutNumbers}
use Rattle.refusals.specs.declared.Refusal.{Refusal}
use Rattle.refusals.specs.Refusal.{answer_from}
use Rattle.fragments.specs.declared.CellLine.{CellLine}
use Rattle.fragments.specs.declared.Cut.{Cut}
use Rattle.fragments.specs.Part.{line_of, range}

-- the line and the range given
abbrev pub line_in : CellLine → Line
line_in g = line_of g.text.now g.column

abbrev pub range_in : CellLine → Range
range_in g = range g.start g.end

-- the values of an accepted cut
abbrev pub numbers_of : Cut → CutNumbers
numbers_of c = record { start = c.start.0; end = c.end.0; line = c.line; byte = c.byte.0; column = c.column.0 }

-- "What a call gives back"
abbrev pub answer_of : Result Cut Refusal → Answer CutNumbers
answer_of r = answer_from numbers_of r
