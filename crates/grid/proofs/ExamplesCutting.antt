-- Computed examples of cutting, at its edges. Expected values are worked out by hand from document 01.
use mathlib.Core.Path.{◌≡◌, refl}
use mathlib.Core.List.{List, [], ◌∷◌, ◌++◌, map}
use Prim.Native.Nat.{ℕ}
use lib.ListN.{replicate}
use Rattle.seq.specs.Ascii.{ascii}
use Rattle.grid.specs.Computing.{reading}
use Rattle.grid.specs.Answer.{Answer, accept, refuse}
use Rattle.grid.specs.Values.{TableCell, Table}
use Rattle.grid.specs.Read.{read_table}
use Rattle.grid.specs.Cut.{cut}
use Rattle.grid.specs.CutCall.{cut_answer, cut_numbers_answer, cut_text}
use Rattle.grid.specs.Listing.{lines_read}
use Rattle.grid.specs.CellListing.{cell_listing}
use Rattle.grid.proofs.Examples.{mark}

-- the cells' lines of a drawing that is read
abbrev cell_lines : Answer Table → List (List (List ℕ))
cell_lines (accept t) = map (λ (c : TableCell). c.lines) t.cells
cell_lines (refuse number place) = []

text-of-a-border-like-line : cell_lines (read_table (lines_read (ascii "+---+\n+:--+\n+---+\n"))) ≡ (ascii ":--" ∷ []) ∷ []
unfolding reading
text-of-a-border-like-line = refl

mark-ends-a-rule : cell_lines (read_table (lines_read (ascii "+--+\n+=" ++ mark ++ ascii "=+\n+--+\n"))) ≡ ((ascii "=" ++ mark ++ ascii "=") ∷ []) ∷ []
unfolding reading
mark-ends-a-rule = refl

empty-last-lines-dropped : cell_lines (read_table (lines_read (ascii "+---+\n|   |\n| a |\n|   |\n+---+\n"))) ≡ ([] ∷ ascii "a" ∷ []) ∷ []
unfolding reading
empty-last-lines-dropped = refl

cells-listed : cell_listing (ascii "+---+---+\n| xyz   |\n+---+---+\n| b | c |\n|   +---+\n| e | d |\n+---+---+\n")
    ≡ ascii "table 2 3 4 6 7\ncell 0 0 2 1 1\n  xyz\ncell 1 0 1 2 3\n  b\n  \n  e\ncell 1 1 1 1 1\n  c\ncell 2 1 1 1 1\n  d\n"
unfolding reading
cells-listed = refl

refusal-listed : cell_listing (ascii "+-+\n+-+\n| |\n| \n") ≡ ascii "refused 5 3\n"
unfolding reading
refusal-listed = refl

trimmed-before-the-first : cut (record { text = ascii "|   |"; column = 0 }) 7 20 (record { start = 1; end = 4 }) 0
    ≡ record { text = []; line = 7; byte = 21; column = 1 }
unfolding reading
trimmed-before-the-first = refl

one-column-tab-dropped : cut (record { text = ascii "|\tx|"; column = 2 }) 7 20 (record { start = 1; end = 3 }) 0
    ≡ record { text = ascii "x"; line = 7; byte = 22; column = 4 }
unfolding reading
one-column-tab-dropped = refl

wider-tab-stays : cut (record { text = ascii "|\tx|"; column = 1 }) 7 20 (record { start = 1; end = 3 }) 0
    ≡ record { text = ascii "\tx"; line = 7; byte = 21; column = 3 }
unfolding reading
wider-tab-stays = refl

backwards-before-limit : cut_answer (record { text = ascii "abcd"; column = 0 }) 0 0 (record { start = 2; end = 1 }) 128 ≡ refuse 13 0
unfolding reading
backwards-before-limit = refl

range-into-a-character : cut_answer (record { text = 0x80 ∷ []; column = 0 }) 0 0 (record { start = 0; end = 0 }) 0 ≡ refuse 13 0
unfolding reading
range-into-a-character = refl

cut-in-numbers : cut_numbers_answer (record { text = ascii "| ab |"; column = 0 }) 7 20 (record { start = 1; end = 5 }) 0
    ≡ accept (record { start = 2; end = 4; line = 7; byte = 22; column = 2 })
unfolding reading
cut-in-numbers = refl

-- by the range, by the column, by the line number and by the table byte
refused-cut-is-empty : cut_text (record { text = ascii "abcd"; column = 0 }) 7 20 (record { start = 0; end = 5 }) 0
    ∷ cut_text (record { text = ascii "abcd"; column = 256 }) 7 20 (record { start = 0; end = 2 }) 0
    ∷ cut_text (record { text = ascii "abcd"; column = 0 }) 65536 20 (record { start = 0; end = 2 }) 0
    ∷ cut_text (record { text = ascii "abcd"; column = 0 }) 7 65536 (record { start = 0; end = 2 }) 0 ∷ [] ≡ replicate 4 []
unfolding reading
refused-cut-is-empty = refl

cut-text : cut_text (record { text = ascii "| ab |"; column = 0 }) 7 20 (record { start = 1; end = 5 }) 0 ≡ ascii "ab"
unfolding reading
cut-text = refl

limits-of-cutting : cut_answer (record { text = ascii "abcd"; column = 255 }) 65535 65535 (record { start = 0; end = 1 }) 127
    ≡ accept (record { text = ascii "a"; line = 65535; byte = 65535; column = 383 })
unfolding reading
limits-of-cutting = refl

-- a line of 513 bytes, a column, a left column, a line number and a table byte, each past its limit alone
each-limit-of-cutting-passed : cut_answer (record { text = replicate 513 0x61; column = 0 }) 7 20 (record { start = 0; end = 1 }) 0
    ∷ cut_answer (record { text = ascii "abcd"; column = 256 }) 7 20 (record { start = 0; end = 1 }) 0
    ∷ cut_answer (record { text = ascii "abcd"; column = 0 }) 7 20 (record { start = 0; end = 1 }) 128
    ∷ cut_answer (record { text = ascii "abcd"; column = 0 }) 65536 20 (record { start = 0; end = 1 }) 0
    ∷ cut_answer (record { text = ascii "abcd"; column = 0 }) 7 65536 (record { start = 0; end = 1 }) 0 ∷ [] ≡ replicate 5 (refuse 2 0)
unfolding reading
each-limit-of-cutting-passed = refl

-- ranges of `a`, a character of two bytes, `b`: backwards, past the line, into the character at its start and at its end; then the
-- whole line, and the empty part at its end
ranges-of-a-line : map (λ r. cut_numbers_answer (record { text = 0x61 ∷ 0xc3 ∷ 0xa9 ∷ 0x62 ∷ []; column = 0 }) 7 20 r 0)
    (record { start = 4; end = 3 } ∷ record { start = 0; end = 5 } ∷ record { start = 2; end = 4 } ∷ record { start = 0; end = 2 }
    ∷ record { start = 0; end = 4 } ∷ record { start = 4; end = 4 } ∷ [])
    ≡ refuse 13 0 ∷ refuse 13 0 ∷ refuse 13 0 ∷ refuse 13 0 ∷ accept (record { start = 0; end = 4; line = 7; byte = 20; column = 1 })
    ∷ accept (record { start = 4; end = 4; line = 7; byte = 24; column = 1 }) ∷ []
unfolding reading
ranges-of-a-line = refl
