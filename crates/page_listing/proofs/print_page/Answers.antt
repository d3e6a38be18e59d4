-- `page_listing::print_page` meets its contract: each return by what splitting tells.
use Rattle.page_listing.proofs.InputLaws.{large-paged, held-paged}
use Rattle.printing.proofs.PutLaws.{prints-as}
use Rattle.input_lines.proofs.SheetLaws.{lines_fit, bytes_fit, parts-agree}
use borrow.Author.Rules.{rules}
use Rattle.page_listing.proofs.print_page.Goals as goal

pub slice_bounds-page_lines-end : goal.slice_bounds-page_lines-end
slice_bounds-page_lines-end c = search lines_fit

pub slice_bounds-page_lines-end-in-Ok : goal.slice_bounds-page_lines-end-in-Ok
slice_bounds-page_lines-end-in-Ok c = search bytes_fit

pub page_lines-requires : goal.page_lines-requires
page_lines-requires c =
    let agree = parts-agree _ _ _ _ _ c.in-Ok.is c.split_lines.ensures.lengths_len c.split_lines.ensures.splits in
    (agree.0, agree.1, search rules)

pub returns-in-Err : goal.returns-in-Err
returns-in-Err c = prints-as c.refused.ensures (search large-paged)

pub returns-in-Ok : goal.returns-in-Ok
returns-in-Ok c = prints-as c.page_lines.ensures (search held-paged)
