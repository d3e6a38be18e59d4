-- `writer::put` meets its contract.
use Rattle.writer.proofs.WritingLaws.{put_written, put-counted}
use borrow.Author.Rules.{rules}
use Rattle.writer.proofs.put.Goals as goal

-- src/lib.rt:14:9
pub returns-then-out-at : goal.returns-then-out-at
returns-then-out-at c = search (rules, put-counted)

-- src/lib.rt:9:1
pub returns : goal.returns
returns c = search (rules, put_written)
