-- `cell::source::Source::measure_cell` meets its contract. The invariant: the lines above y are counted.
use Rattle.representation.specs.Lent.{rect_of}
use Rattle.cell.specs.Given.{source_of}
use Rattle.cell.proofs.pieces.MeasureLaws.{Measuring}
use Rattle.cell.proofs.source.Source.measure_cell.Given as goal

abbrev pub invariant-loop-y : goal.invariant-loop-y
invariant-loop-y l = Measuring (source_of l.self) (rect_of l.rect) l.lines l.bytes l.y
