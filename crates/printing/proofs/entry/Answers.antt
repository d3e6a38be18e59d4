-- `printing::entry` meets its contract.
use Rattle.seq.proofs.ListsLaws.{read_past}
use borrow.Author.Rules.{rules}
use Rattle.printing.proofs.entry.Goals as goal

pub returns-else-i-array : goal.returns-else-i-array
returns-else-i-array c = search (rules, read_past)
