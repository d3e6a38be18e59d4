-- `sizes::lines::line_columns` meets its contract: what its bytes add are its columns.
use borrow.Author.Rules.{rules}
use Rattle.sizes.proofs.lines.ColumnLaws.{added-columns}
use Rattle.sizes.proofs.lines.line_columns.Goals as goal

pub returns : goal.returns
returns c = search (rules, added-columns)
