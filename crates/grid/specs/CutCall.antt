-- Cutting one line. Document 01: "Cutting a line, finding and remapping a line end check 13, 2".
use Rattle.std.specs.Prelude.{ℕ, ◌+◌, ◌-◌, Bool, ◌||◌, List, [], length, get_or, ltb}
use Rattle.text.specs.Utf8.{continues}
use Rattle.grid.specs.Answer.{Answer, accept, refuse_if, and_then, afterwards}
use Rattle.grid.specs.Limits.{max_line_bytes, max_origin, max_left, max_register}
use Rattle.grid.specs.Values.{Line, Range, Fragment}
use Rattle.grid.specs.Cut.{cut}

-- "a range runs backwards, past its line or into a character (an end of it stands before a byte 80 to BF hexadecimal)"
unfoldable pub bad_range : Range → List ℕ → Bool
bad_range r text =
    ltb r.end r.start || ltb (length text) r.end || continues (get_or text r.start 0) || continues (get_or text r.end 0)

-- the limits of a line, its number, its table byte and a left column
unfoldable pub cut_too_large : Line → ℕ → ℕ → ℕ → Bool
cut_too_large given line table_byte left =
    ltb max_line_bytes (length given.text) || ltb max_origin given.column || ltb max_left left || ltb max_register line || ltb max_register table_byte

unfoldable pub cut_answer : Line → ℕ → ℕ → Range → ℕ → Answer Fragment
cut_answer given line table_byte r left =
    refuse_if (bad_range r given.text) 13 (refuse_if (cut_too_large given line table_byte left) 2 (accept (cut given line table_byte r left)))

-- the same in numbers: where the cut text starts and ends in the line given, and its line, byte and column
pub record CutNumbers : Type 0 where
  pub start : ℕ
  pub end : ℕ
  pub line : ℕ
  pub byte : ℕ
  pub column : ℕ

unfoldable pub cut_numbers : ℕ → Fragment → CutNumbers
cut_numbers table_byte f =
    record { start = f.byte - table_byte; end = f.byte - table_byte + length f.text; line = f.line; byte = f.byte; column = f.column }

unfoldable pub cut_numbers_answer : Line → ℕ → ℕ → Range → ℕ → Answer CutNumbers
cut_numbers_answer given line table_byte r left = and_then (cut_answer given line table_byte r left) (λ f. accept (cut_numbers table_byte f))

-- the cut text as a part of the line; the empty part where the call is refused
unfoldable pub cut_text : Line → ℕ → ℕ → Range → ℕ → List ℕ
cut_text given line table_byte r left = afterwards (cut_answer given line table_byte r left) (λ (f : Fragment). f.text) []

-- where that part starts in the line given; the empty part stands at its start
unfoldable pub cut_start : Line → ℕ → ℕ → Range → ℕ → ℕ
cut_start given line table_byte r left = afterwards (cut_numbers_answer given line table_byte r left) (λ (c : CutNumbers). c.start) 0
