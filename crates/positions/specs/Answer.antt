-- The answers of the positions calls, in the terms of the definitions: document 01's number, place and values for each case.
use Rattle.std.specs.Prelude.{Result}
use Rattle.grid.specs.Answer.{Answer}
use Rattle.refusals.specs.declared.Refusal.{Refusal}
use Rattle.refusals.specs.Refusal.{answer_from}
use Rattle.sourcepos.specs.Positions.{Sourcepos}
use Rattle.sourcepos.specs.PositionsCall as calls
use Rattle.positions.specs.Spans.{sourcepos_of}
use Rattle.positions.specs.declared.span.Sourcepos.{Sourcepos as Span}
use Rattle.positions.specs.declared.PositionsFound.{PositionsFound}

abbrev pub positions_found : PositionsFound → calls.PositionsFound
positions_found p = record { table = sourcepos_of p.table; rows = p.rows; cells = p.cells }

abbrev pub positions_of : Result PositionsFound Refusal → Answer calls.PositionsFound
positions_of result = answer_from positions_found result

abbrev pub cell_position_of : Result Span Refusal → Answer Sourcepos
cell_position_of result = answer_from sourcepos_of result
