-- `cell::source::Source::measure` meets its contract. The invariant: the first k cells are counted.
use Rattle.cell.specs.Given.{source_of}
use Rattle.cell.proofs.pieces.TotalLaws.{Totalling}
use Rattle.cell.proofs.source.Source.measure.Given as goal

abbrev pub invariant-loop-k : goal.invariant-loop-k
invariant-loop-k l = Totalling (source_of l.self) l.rects.array.now l.rects.count l.initial.counts l.counts l.lines l.bytes l.k
