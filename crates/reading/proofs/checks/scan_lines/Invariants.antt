-- `reading::checks::scan_lines` meets its contract. The invariant: the lines before y are in the set and known.
use Rattle.reading.proofs.checks.ScanLaws.{LinesSoFar}
use Rattle.reading.proofs.checks.scan_lines.Given as goal

abbrev pub invariant-loop-y : goal.invariant-loop-y
invariant-loop-y l = LinesSoFar l.lengths l.columns l.text l.initial.glyphs l.initial.offsets l.initial.counts l.glyphs l.offsets l.counts l.at l.y
