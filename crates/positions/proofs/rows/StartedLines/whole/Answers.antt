-- `positions::rows::StartedLines::whole` meets its contract: from its calls.
use Rattle.std.proofs.Common.{rules}
use Rattle.positions.proofs.rows.RowLaws.{whole_lines-told}
use Rattle.positions.proofs.rows.StartedLines.whole.Goals as goal

pub returns : goal.returns
returns c = search (rules, whole_lines-told)
