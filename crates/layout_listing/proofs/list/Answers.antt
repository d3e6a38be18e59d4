-- `layout_listing::list` meets its contract: each return by what splitting tells.
use Rattle.printing.proofs.PutLaws.{prints-as}
use Rattle.input_lines.proofs.SheetLaws.{lines_fit, parts-agree}
use Rattle.layout_listing.proofs.InputLaws.{listing-large, listing-held}
use borrow.Author.Rules.{rules}
use Rattle.layout_listing.proofs.list.Goals as goal

pub slice_bounds-list_lines-end : goal.slice_bounds-list_lines-end
slice_bounds-list_lines-end c = search lines_fit

pub list_lines-requires : goal.list_lines-requires
list_lines-requires c =
    let agree = parts-agree _ _ _ _ _ c.in-Ok.is c.split_lines.ensures.lengths_len c.split_lines.ensures.splits in
    (agree.0, agree.1, search rules)

pub returns-in-Err : goal.returns-in-Err
returns-in-Err c = prints-as c.refused.ensures (search listing-large)

pub returns-in-Ok : goal.returns-in-Ok
returns-in-Ok c = prints-as c.list_lines.ensures (search listing-held)
