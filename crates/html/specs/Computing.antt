-- One name that opens every definition of this crate and of those below, for what is proved by computing.
use Rattle.drawing.specs.Computing.{redrawing}
use Rattle.std.specs.Float.Ieee.{round}
use Rattle.html.specs.Shares.{hundredths_of, percent_of, share_of, shares, fraction, share_text}
use Rattle.html.specs.Page.{column_group, cell_page, row_page, page}
use Rattle.html.specs.PageCall.{page_contradicts, page_cells, page_table, page_too_large, page_bytes, page_accepts, page_answer, page_afterwards}
use Rattle.html.specs.Tags.{render, before, from, after, same, read_attributes, read_tag, holds_nothing, read_one, read_pieces, read_tags}
use Rattle.html.specs.PageTree.{cells_tree, section_rows, rows_tree, sections_tree, shares_tree, group_tree, page_tree}
use Rattle.html.specs.Escaping.{escape_byte, escape, unescape, inner_of}
use Rattle.html.specs.PageListing.{page_listing}

unfoldable pub rendering : Unit {0}
unfolding redrawing round hundredths_of percent_of share_of shares fraction share_text column_group cell_page row_page page page_contradicts page_cells page_table page_too_large page_bytes page_accepts page_answer page_afterwards render before from after same read_attributes read_tag holds_nothing read_one read_pieces read_tags cells_tree section_rows rows_tree sections_tree shares_tree group_tree page_tree escape_byte escape unescape inner_of page_listing
rendering = tt
