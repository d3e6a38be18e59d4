-- One name that opens every definition of this crate and of those below, for what is proved by computing.
use Rattle.seq.specs.Computing.{lists}
use Rattle.text.specs.Characters.{width_of, tab_columns, in_set, span}
use Rattle.text.specs.Utf8.{from_two, from_three, decoded, character, chars_from, well_from}
use Rattle.text.specs.Columns.{columns_from}
use Rattle.text.specs.Trim.{trim_end}
use Rattle.text.specs.Rule.{to_plus, parts_at_plus, drop_trailing_colon, fills, is_segment, closed_segments, is_rule}

unfoldable pub characters : Unit {0}
unfolding lists width_of tab_columns in_set span from_two from_three decoded character chars_from well_from columns_from trim_end to_plus parts_at_plus drop_trailing_colon fills is_segment closed_segments is_rule
characters = tt
