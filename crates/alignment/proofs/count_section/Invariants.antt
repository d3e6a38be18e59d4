-- `alignment::count_section` meets its contract. The invariant: n of the rows before the index have the code.
use Rattle.alignment.proofs.SectionLaws.{Counting}
use Rattle.alignment.proofs.count_section.Given as goal

abbrev pub invariant-loop-row : goal.invariant-loop-row
invariant-loop-row l = Counting l.sections l.code l.n l.row-index
