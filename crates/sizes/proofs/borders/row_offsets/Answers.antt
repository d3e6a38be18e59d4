-- `sizes::borders::row_offsets` meets its contract: its heights are the first of the array, fitted.
use Rattle.sizes.proofs.borders.StartLaws.{ones_small}
use Rattle.sizes.proofs.borders.FirstLaws.{spanned-wider, borders-stand, ones-first}
use borrow.Author.Rules.{rules}
use Rattle.sizes.proofs.borders.row_offsets.Goals as goal

pub fit-requires-clause-spanned : goal.fit-requires-clause-spanned
fit-requires-clause-spanned c = search (rules, spanned-wider, ones_small)

pub fit-requires-clause-sizes_len : goal.fit-requires-clause-sizes_len
fit-requires-clause-sizes_len c = search (rules, spanned-wider, ones_small)

pub returns : goal.returns
returns c = search (rules, borders-stand, ones-first)
