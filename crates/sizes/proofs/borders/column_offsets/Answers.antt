-- `sizes::borders::column_offsets` meets its contract: its widths are the first of the array, fitted.
use Rattle.sizes.proofs.borders.FirstLaws.{spanned-wider, borders-stand}
use borrow.Author.Rules.{rules}
use Rattle.sizes.proofs.borders.column_offsets.Goals as goal

pub fit-widths-requires-clause-spanned : goal.fit-widths-requires-clause-spanned
fit-widths-requires-clause-spanned c = search (rules, spanned-wider)

pub fit-widths-requires-clause-sizes_len : goal.fit-widths-requires-clause-sizes_len
fit-widths-requires-clause-sizes_len c = search (rules, spanned-wider)

pub returns : goal.returns
returns c = search (rules, borders-stand)
