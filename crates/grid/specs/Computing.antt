-- One name that opens every definition of this crate and of those below, for what is proved by computing.
use Rattle.text.specs.Computing.{characters}
use Rattle.grid.specs.Slots.{glyph_of, slots_from, line_slots, is_separator, grid_of, slot_at}
use Rattle.grid.specs.Rectangle.{across, down, bordered, first_rect}
use Rattle.grid.specs.Trace.{leftmost, stands_level, raise, next_rect, trace_from, trace}
use Rattle.grid.specs.Layout.{column_lines, row_lines, index_of, between, alignment_at, columns_read, last_but_one, section_at, rows_read, cell_read, layout_of}
use Rattle.grid.specs.Cut.{after_first, cut, cut_from, cell_fragments, drop_empty_last, table_cell, table_of}
use Rattle.grid.specs.Read.{drawing_too_large, outside_set, no_rule, wrong_width, read_grid, read_rects, read_layout, read_table}
use Rattle.grid.specs.Same.{drawn_lines, normal_cell, normal}
use Rattle.grid.specs.Cover.{risen}
use Rattle.grid.specs.Flat.{drawing_contradicts, split_text, lines_with, lines_of, flat_drawing, columns_of_array, cells_of_array, every_nth, table_contradicts, table_of_arrays, table_sizes, table_arrays}
use Rattle.grid.specs.LayoutCall.{space_short, layout_arrays, layout_sizes, layout_short, layout_over, layout_accepts, layout_answer, layout_afterwards}
use Rattle.grid.specs.Rebuilt.{rebuilt_from}
use Rattle.grid.specs.CutCall.{bad_range, cut_too_large, cut_answer, cut_numbers, cut_numbers_answer, cut_text, cut_start}
use Rattle.grid.specs.TableCall.{starts_short, table_space_short, table_short, table_over, table_accepts, table_answer, table_afterwards, cell_cuts, cell_accepts, cell_answer, cell_afterwards}
use Rattle.grid.specs.Listing.{split_lines, lines_read, printed, numbered, listing}
use Rattle.grid.specs.CellListing.{cell_listing}

unfoldable pub reading : Unit {0}
unfolding characters glyph_of slots_from line_slots is_separator grid_of slot_at across down bordered first_rect leftmost stands_level raise next_rect trace_from trace column_lines row_lines index_of between alignment_at columns_read last_but_one section_at rows_read cell_read layout_of after_first cut cut_from cell_fragments drop_empty_last table_cell table_of drawing_too_large outside_set no_rule wrong_width read_grid read_rects read_layout read_table drawn_lines normal_cell normal risen drawing_contradicts split_text lines_with lines_of flat_drawing columns_of_array cells_of_array every_nth table_contradicts table_of_arrays table_sizes table_arrays space_short layout_arrays layout_sizes layout_short layout_over layout_accepts layout_answer layout_afterwards rebuilt_from bad_range cut_too_large cut_answer cut_numbers cut_numbers_answer cut_text cut_start starts_short table_space_short table_short table_over table_accepts table_answer table_afterwards cell_cuts cell_accepts cell_answer cell_afterwards split_lines lines_read printed numbered listing cell_listing
reading = tt
