-- Where a cut line stands. Document 01: "A cut line is a view of the caller's text with its line, byte and column".
use Rattle.std.specs.Prelude.{ℕ, List}
use Rattle.grid.specs.Answer.{afterwards}
use Rattle.grid.specs.Values.{Line, Range}
use Rattle.grid.specs.CutCall.{CutNumbers, cut_numbers_answer}
use Rattle.fragments.specs.declared.part.Place.{Place}

-- the line and the range given, of plain numbers
abbrev pub line_given : List ℕ → ℕ → Line
line_given text column = record { text = text; column = column }

abbrev pub range_given : ℕ → ℕ → Range
range_given start end = record { start = start; end = end }

-- the byte and the column of the cut text, 0 where the cut is refused
abbrev pub cut_place : Line → ℕ → ℕ → Range → ℕ → Place
cut_place given line table_byte r left =
    afterwards (cut_numbers_answer given line table_byte r left)
    (λ (c : CutNumbers). record { byte = record { 0 = c.byte }; column = record { 0 = c.column } })
    (record { byte = record { 0 = 0 }; column = record { 0 = 0 } })
