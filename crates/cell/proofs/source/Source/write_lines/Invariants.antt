-- `cell::source::Source::write_lines` meets its contract. The invariant: the first i lines are written, up to byte `end`.
use Rattle.representation.specs.Lent.{rect_of}
use Rattle.cell.specs.Given.{source_of}
use Rattle.cell.proofs.lines.WriteLaws.{LinesWritten}
use Rattle.cell.proofs.source.Source.write_lines.Given as goal

abbrev pub invariant-loop-i : goal.invariant-loop-i
invariant-loop-i l = LinesWritten (source_of l.self) (rect_of l.rect) l.count l.at l.initial.end l.initial.out_lengths l.initial.out_text l.i l.end l.out_lengths l.out_text
