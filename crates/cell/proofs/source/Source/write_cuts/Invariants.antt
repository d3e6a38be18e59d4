-- `cell::source::Source::write_cuts` meets its contract. The invariant: the cuts of the inner lines above y are written.
use Rattle.representation.specs.Lent.{rect_of}
use Rattle.cell.specs.Given.{source_of}
use Rattle.cell.proofs.cuts.WriteLaws.{CutsWritten}
use Rattle.cell.proofs.source.Source.write_cuts.Given as goal

abbrev pub invariant-loop-y : goal.invariant-loop-y
invariant-loop-y l = CutsWritten (source_of l.self) (rect_of l.rect) l.initial.out l.y l.out
