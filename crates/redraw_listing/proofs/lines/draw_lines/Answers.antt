-- `redraw_listing::lines::draw_lines` meets its contract: what the redraw call tells.
use Rattle.redraw_listing.proofs.lines.ToldLaws.{table-drawn}
use Rattle.redraw_listing.proofs.lines.draw_lines.Goals as goal

pub returns : goal.returns
returns c = table-drawn _ _ c.args.out_lengths.now c.args.out_text.now _ _ _ c.redraw.result c.requires.agreeing c.requires.room c.redraw.ensures
