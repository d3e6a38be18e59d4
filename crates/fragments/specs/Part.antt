-- A cut line in numbers, in the terms of the definitions. Document 01, "Cutting".
use Rattle.std.specs.Prelude.{ℕ, ◌+◌, ◌-◌, ◌≤◌, ◌≡◌, List, length, drop}
use Rattle.text.specs.declared.ByteAt.{ByteAt}
use Rattle.text.specs.declared.Column.{Column}
use Rattle.grid.specs.Limits.{max_line_bytes, max_origin, max_left}
use Rattle.grid.specs.Values.{Line, Range}
use Rattle.grid.specs.Cut.{after_first, cut}
use Rattle.grid.specs.CutCall.{cut_numbers}
use Rattle.fragments.specs.declared.part.Place.{Place}
use Rattle.fragments.specs.declared.part.Piece.{Piece}

-- the arguments as given
abbrev pub line_of : List ℕ → Column → Line
line_of text column = record { text = text; column = column.0 }

abbrev pub range : ByteAt → ByteAt → Range
range start end = record { start = start.0; end = end.0 }

-- what the checks leave: a range inside its line, and numbers so small that no sum of them wraps
pub record Checked (text : List ℕ) (column : Column) (start end : ByteAt) (left : Column) : Type 0 where
  pub forward : start.0 ≤ end.0
  pub inside : end.0 ≤ length text
  pub short : length text ≤ max_line_bytes
  pub low_column : column.0 ≤ max_origin
  pub low_left : left.0 ≤ max_left

-- "A first space, or a first tab that takes one column, is dropped": where a trimmed text at this place starts without it
pub record Begins (text : List ℕ) (at r : Place) : Type 0 where
  pub inside : (at.byte.0 ≤ r.byte.0) × (r.byte.0 ≤ at.byte.0 + length text)
  pub begun : (line table_byte : ℕ) → after_first text line (table_byte + at.byte.0) at.column.0
      ≡ record { text = drop (r.byte.0 - at.byte.0) text; line = line; byte = table_byte + r.byte.0; column = r.column.0 }

-- a cut line in numbers, whatever its line and table byte
pub record Pieced (text : List ℕ) (column : Column) (start end : ByteAt) (left : Column) (r : Piece) : Type 0 where
  pub numbers : (line table_byte : ℕ) → cut_numbers table_byte (cut (line_of text column) line table_byte (range start end) left.0)
      ≡ record { start = r.start.0; end = r.end.0; line = line; byte = table_byte + r.start.0; column = r.column.0 }
  pub within : (start.0 ≤ r.start.0) × (r.start.0 ≤ r.end.0) × (r.end.0 ≤ end.0)
