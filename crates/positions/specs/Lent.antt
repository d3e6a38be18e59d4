-- Lent lines in the terms of the definitions.
use Rattle.std.specs.Prelude.{ℕ, List}
use Rattle.grid.specs.Values.{Line}
use Rattle.grid.specs.Flat.{lines_from}
use Rattle.sourcepos.specs.Positions.{Placed}
use Rattle.positions.specs.Spans.{placed_lines}
use Rattle.positions.specs.declared.lines.NumberedLines.{NumberedLines}
use Rattle.positions.specs.declared.rows.StartedLines.{StartedLines}

-- lines with their numbers and table bytes
abbrev pub placed_by : NumberedLines → List Line → Placed
placed_by n lines = placed_lines n.numbers.now n.table_bytes.now lines

-- those of arrays, with these columns
abbrev pub started_by : StartedLines → List ℕ → Placed
started_by s columns = placed_by s.lines (lines_from s.lengths.now columns s.text.now)
