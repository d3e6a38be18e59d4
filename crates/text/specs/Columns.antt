-- The columns that a text takes.
use Rattle.std.specs.Prelude.{ℕ, ◌+◌, Bool, cond, List, [], ◌∷◌, map, eqb, ltb}
use Rattle.seq.specs.Lists.{sum}
use Rattle.text.specs.Characters.{tab, span}
use Rattle.text.specs.Utf8.{CharIndex}

-- the columns that characters take from a column on
unfoldable pub columns_from : ℕ → List CharIndex → ℕ
columns_from column [] = 0
columns_from column (c ∷ cs) = span column c.value + columns_from (column + span column c.value) cs

abbrev pub is_tab : ℕ → Bool
is_tab b = eqb b tab

-- what a byte adds to the columns of a line that is UTF-8 of the set: at a character's first byte all of its columns, a tab counted as 4
unfoldable pub byte_columns : ℕ → ℕ
byte_columns b = cond (ltb b 0x80) (cond (is_tab b) 4 1) (cond (ltb b 0xc0) 0 (cond (ltb b 0xcc) 1 (cond (ltb b 0xe0) 0 2)))

unfoldable pub added_columns : List ℕ → ℕ
added_columns line = sum (map byte_columns line)
