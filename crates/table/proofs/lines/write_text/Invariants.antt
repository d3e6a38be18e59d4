-- `table::lines::write_text` meets its contract. The invariant: the lines of the first k cells are written, up to `line` and `byte`.
use Rattle.cell.specs.Given.{source_of}
use Rattle.table.proofs.lines.WriteLaws.{TextWritten}
use Rattle.table.proofs.lines.write_text.Given as goal

abbrev pub invariant-loop-k : goal.invariant-loop-k
invariant-loop-k l = TextWritten (source_of l.source) l.rects.array.now l.rects.count l.counts l.initial.out_lengths l.initial.out_text l.k l.line l.byte.0 l.out_lengths l.out_text
