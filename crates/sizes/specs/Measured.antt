-- What measuring a table answers.
use Rattle.std.specs.Prelude.{ℕ, ◌+◌, ◌≡◌, List, length, take}
use Rattle.grid.specs.Flat.{split_text}
use Rattle.drawing.specs.Sizes.{widths, heights, offsets}
use Rattle.representation.specs.TableIn.{table_in}
use Rattle.sizes.specs.Lines.{Trimmed}
use Rattle.sizes.specs.Cells.{Gathered}
use Rattle.sizes.specs.declared.Offsets.{Offsets}

-- the borders of the table in these arrays, its trimmed lines, and what is gathered of its cells
pub record Measured (columns n : ℕ) (cols sections cells lengths text starts ends firsts highs wides : List ℕ) (r : Offsets) : Type 0 where
  pub across_room : length r.xs ≡ 128
  pub down_room : length r.ys ≡ 128
  pub across : take (columns + 1) r.xs ≡ offsets (widths (table_in columns n cols sections cells lengths text))
  pub down : take (length sections + 1) r.ys ≡ offsets (heights (table_in columns n cols sections cells lengths text))
  pub trimmed : Trimmed lengths text starts ends
  pub gathered : Gathered (table_in columns n cols sections cells lengths text).cells (split_text lengths text) firsts highs wides
