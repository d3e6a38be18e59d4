-- `positions::rows::StartedLines::trimmed_end` meets its contract: the part is the line.
use Rattle.std.proofs.Common.{rules}
use Rattle.positions.proofs.rows.RowLaws.{started_lines-inside, trimmed-short, trimmed-told}
use Rattle.positions.proofs.rows.StartedLines.trimmed_end.Goals as goal

pub slice_bounds-trim_end-end : goal.slice_bounds-trim_end-end
slice_bounds-trim_end-end c = search (rules, started_lines-inside)

pub returns-clause-told : goal.returns-clause-told
returns-clause-told c = search (rules, trimmed-told)

pub returns-clause-short : goal.returns-clause-short
returns-clause-short c = search (rules, trimmed-short)
