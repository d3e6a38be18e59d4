-- Document 01, refusal 12, for the five arrays of a table: two numbers to a column, one to a row, five to a cell, one to a line, and the text.
use Rattle.std.specs.Prelude.{ℕ, ◌*◌, Bool, ◌||◌, ltb}

abbrev pub table_too_short : (cols sections cells lengths text across down n lines bytes : ℕ) → Bool
table_too_short cols sections cells lengths text across down n lines bytes =
    ltb cols (2 * across) || ltb sections down || ltb cells (5 * n) || ltb lengths lines || ltb text bytes
