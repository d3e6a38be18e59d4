-- One name that opens every definition of this crate and of those below, for what is proved by computing.
use Rattle.grid.specs.Computing.{reading}
use Rattle.drawing.specs.GridRules.{in_order, all_inside, cover_once, all_start, sections_run, none_crosses, keeps_rules}
use Rattle.drawing.specs.Sizes.{widest, in_turn, fit, widths, heights, offsets_from}
use Rattle.drawing.specs.Plain.{box_of, rule_lines, canvas_at, canvas_of, corner_at, horizontal_at, vertical_at, next_corner, draws_colon, colon_at, border_byte, starts_inside, inner_line, put_down, drawn_line, canvas_lines, drawn}
use Rattle.drawing.specs.Redraw.{table_empty, shape_too_large, lines_too_large, table_too_large, table_outside_set, foot_without_head, misaligned, drawn_too_large, splits_at, splits, split_cell, redraw_canvas, check_table, redraw}
use Rattle.drawing.specs.RedrawCall.{redraw_space_short, drawing_short, redraw_accepts, redraw_answer, redraw_afterwards}
use Rattle.drawing.specs.SheetCall.{sheet_space_short, sheet_accepts, sheet_answer, sheet_afterwards}
use Rattle.drawing.specs.Listing.{redraw_listing}

unfoldable pub redrawing : Unit {0}
unfolding reading in_order all_inside cover_once all_start sections_run none_crosses keeps_rules widest in_turn fit widths heights offsets_from box_of rule_lines canvas_at canvas_of corner_at horizontal_at vertical_at next_corner draws_colon colon_at border_byte starts_inside inner_line put_down drawn_line canvas_lines drawn table_empty shape_too_large lines_too_large table_too_large table_outside_set foot_without_head misaligned drawn_too_large splits_at splits split_cell redraw_canvas check_table redraw redraw_space_short drawing_short redraw_accepts redraw_answer redraw_afterwards sheet_space_short sheet_accepts sheet_answer sheet_afterwards redraw_listing
redrawing = tt
