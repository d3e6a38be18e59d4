-- What writing a table needs.
use Rattle.std.specs.Prelude.{ℕ, ◌*◌, ◌-◌, ◌≤◌, List, length}
use Rattle.grid.specs.Flat.{TableArrays, join_text}
use Rattle.representation.specs.Edges.{Collected, row_lines_below, column_lines_below}
use Rattle.representation.specs.declared.Bounds.{Bounds}
use Rattle.cell.specs.Text.{source_in, kept_lines, all_lines, SourceReady, CountedBy, most_text}
use Rattle.reading.specs.Call.{SheetArrays, rects_in}
use Rattle.reading.specs.declared.Reading.{Reading}

-- the lines found, the numbers counted, and room in every array
pub record Writable (a : SheetArrays) (o : Reading) (starts counts : List ℕ) (tops lefts : Bounds) (out : TableArrays) : Type 0 where
  pub ready : SourceReady (source_in a starts)
  pub counted : CountedBy (λ r. length (kept_lines (source_in a starts) r)) (rects_in a o.cells) counts
  pub rows_found : Collected (row_lines_below (length a.lengths) (rects_in a o.cells)) (length a.lengths) tops
  pub columns_found : Collected (column_lines_below o.width.0 (rects_in a o.cells)) o.width.0 lefts
  pub column_room : 2 * (lefts.count - 1) ≤ length out.columns
  pub section_room : tops.count - 1 ≤ length out.sections
  pub cell_room : 5 * o.cells ≤ length out.cells
  pub length_room : length (all_lines (source_in a starts) (rects_in a o.cells)) ≤ length out.lengths
  pub text_room : length (join_text (all_lines (source_in a starts) (rects_in a o.cells))) ≤ length out.text
  pub few_bytes : length (join_text (all_lines (source_in a starts) (rects_in a o.cells))) ≤ most_text
