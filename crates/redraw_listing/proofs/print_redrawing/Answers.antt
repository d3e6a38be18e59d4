-- `redraw_listing::print_redrawing` meets its contract: each return by what splitting tells.
use Rattle.redraw_listing.proofs.InputLaws.{large-redrawn, held-redrawn}
use Rattle.printing.proofs.PutLaws.{prints-as}
use Rattle.input_lines.proofs.SheetLaws.{lines_fit, bytes_fit, parts-agree}
use borrow.Author.Rules.{rules}
use Rattle.redraw_listing.proofs.print_redrawing.Goals as goal

pub slice_bounds-redraw_lines-end : goal.slice_bounds-redraw_lines-end
slice_bounds-redraw_lines-end c = search lines_fit

pub slice_bounds-redraw_lines-end-in-Ok : goal.slice_bounds-redraw_lines-end-in-Ok
slice_bounds-redraw_lines-end-in-Ok c = search bytes_fit

pub redraw_lines-requires : goal.redraw_lines-requires
redraw_lines-requires c =
    let agree = parts-agree _ _ _ _ _ c.in-Ok.is c.split_lines.ensures.lengths_len c.split_lines.ensures.splits in
    (agree.0, agree.1, search rules)

pub returns-in-Err : goal.returns-in-Err
returns-in-Err c = prints-as c.refused.ensures (search large-redrawn)

pub returns-in-Ok : goal.returns-in-Ok
returns-in-Ok c = prints-as c.redraw_lines.ensures (search held-redrawn)
