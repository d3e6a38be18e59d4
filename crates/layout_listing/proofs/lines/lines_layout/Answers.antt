-- `layout_listing::lines::lines_layout` meets its contract: what the layout call tells.
use Rattle.layout_listing.proofs.lines.ListedLaws.{layout_told-call}
use Rattle.layout_listing.proofs.lines.lines_layout.Goals as goal

pub returns : goal.returns
returns c =
    layout_told-call c.args.lengths.now c.args.text.now c.args.cols.now c.args.rows.now c.args.cells.now c.requires.lengths_len_bound.0 c.requires.lengths_len_bound.1 c.requires.cols_len c.layout.result _ _ _ _
    c.layout.ensures.0 c.layout.ensures.1
