-- `slots::scan::scan_next` meets its contract.
use Rattle.slots.proofs.scan.ScannedLaws.{plain-scanned, outside-scanned, columns-scanned, trimmed-room}
use borrow.Author.Rules.{rules}
use Rattle.slots.proofs.scan.scan_next.Goals as goal

pub returns-then-is_plain_line : goal.returns-then-is_plain_line
returns-then-is_plain_line c = search plain-scanned

pub scan_line-requires : goal.scan_line-requires
scan_line-requires c = search (rules, trimmed-room)

pub returns-in_default : goal.returns-in_default
returns-in_default c = search outside-scanned

pub returns : goal.returns
returns c = search columns-scanned
