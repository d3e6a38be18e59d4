-- Computed examples of positions, at their edges. Expected values were worked out by hand from document 01.
use mathlib.Core.Path.{◌≡◌, refl}
use mathlib.Core.List.{List, [], ◌∷◌, ◌++◌}
use Prim.Native.Nat.{ℕ}
use lib.ListN.{replicate}
use Rattle.seq.specs.Ascii.{ascii}
use Rattle.grid.specs.Answer.{accept, refuse}
use Rattle.grid.specs.LayoutCall.{LayoutSpace}
use Rattle.sourcepos.specs.Computing.{positions}
use Rattle.sourcepos.specs.PositionsCall.{FlatPlaced, PositionArrays, positions_answer, positions_afterwards, cell_position_answer}

abbrev space : LayoutSpace
space = record { glyphs = 16384; offsets = 16384; down = 16384; right = 16384; rects = 4096 }

-- A row without inner lines above one of three cells

abbrev given : List ℕ → FlatPlaced
given table_bytes =
    record {
      drawing = record {
        lines = 4;
        bytes = 31;
        lengths = 7 ∷ 7 ∷ 10 ∷ 7 ∷ [];
        columns = 2 ∷ 2 ∷ 2 ∷ 2 ∷ [];
        text = ascii "+-----++-+-+-+|a|b|c|   +-+-+-+";
      };
      numbers = 4 ∷ 5 ∷ 6 ∷ 7 ∷ [];
      table_bytes = table_bytes;
    }

abbrev bytes : List ℕ
bytes = 20 ∷ 30 ∷ 40 ∷ 50 ∷ []

abbrev lent : List ℕ → PositionArrays
lent cells = record { rows = replicate 9 9; cells = cells }

table-position : positions_answer space 128 (given bytes) (lent (replicate 16 8))
    ≡ accept (record { table = record { start_line = 4; start_column = 21; end_line = 7; end_column = 57 }; rows = 2; cells = 4 })
unfolding positions
table-position = refl

rows-and-cells : positions_afterwards space 128 (given bytes) (lent (replicate 17 8))
    ≡ record {
      rows = 4 ∷ 21 ∷ 4 ∷ 20 ∷ 6 ∷ 41 ∷ 6 ∷ 47 ∷ 9 ∷ [];
      cells = 4 ∷ 21 ∷ 4 ∷ 20 ∷ 6 ∷ 42 ∷ 6 ∷ 42 ∷ 6 ∷ 44 ∷ 6 ∷ 44 ∷ 6 ∷ 46 ∷ 6 ∷ 46 ∷ 8 ∷ [];
    }
unfolding positions
rows-and-cells = refl

last-cell : cell_position_answer space 128 (given bytes) 3 ≡ accept (record { start_line = 6; start_column = 46; end_line = 6; end_column = 46 })
unfolding positions
last-cell = refl

cell-past-the-end : cell_position_answer space 128 (given bytes) 4 ≡ refuse 13 0
unfolding positions
cell-past-the-end = refl

cells-too-short : positions_answer space 128 (given bytes) (lent (replicate 15 8)) ≡ refuse 12 0
unfolding positions
cells-too-short = refl

refused-positions-write-nothing : positions_afterwards space 128 (given bytes) (lent (replicate 15 8)) ≡ lent (replicate 15 8)
unfolding positions
refused-positions-write-nothing = refl

-- Lines of several lengths, with a tab, a mark and spaces at their ends, in cells of two lines

abbrev placed : List ℕ → List ℕ → FlatPlaced
placed numbers table_bytes =
    record {
      drawing = record {
        lines = 6;
        bytes = 50;
        lengths = 7 ∷ 8 ∷ 11 ∷ 8 ∷ 8 ∷ 8 ∷ [];
        columns = 0 ∷ 0 ∷ 0 ∷ 0 ∷ 0 ∷ 0 ∷ [];
        text = ascii "+--+--+| a| b|\t|c" ++ 0xcc ∷ 0x81 ∷ ascii " |d |  +--+--+ |   e | +-----+ ";
      };
      numbers = numbers;
      table_bytes = table_bytes;
    }

abbrev numbers : List ℕ
numbers = 11 ∷ 13 ∷ 17 ∷ 19 ∷ 23 ∷ 29 ∷ []

abbrev table_bytes : List ℕ
table_bytes = 100 ∷ 200 ∷ 300 ∷ 400 ∷ 500 ∷ 600 ∷ []

table-to-the-trimmed-end : positions_answer space 128 (placed numbers table_bytes) (record { rows = replicate 8 0; cells = replicate 12 0 })
    ≡ accept (record { table = record { start_line = 11; start_column = 101; end_line = 29; end_column = 607 }; rows = 2; cells = 3 })
unfolding positions
table-to-the-trimmed-end = refl

-- each byte of the line that it belongs to
bytes-of-first-and-last-lines : positions_afterwards space 128 (placed numbers table_bytes) (record { rows = replicate 8 0; cells = replicate 12 0 })
    ≡ record {
      rows = 13 ∷ 201 ∷ 17 ∷ 309 ∷ 23 ∷ 501 ∷ 23 ∷ 507 ∷ [];
      cells = 13 ∷ 202 ∷ 17 ∷ 305 ∷ 13 ∷ 205 ∷ 17 ∷ 308 ∷ 23 ∷ 502 ∷ 23 ∷ 506 ∷ [];
    }
unfolding positions
bytes-of-first-and-last-lines = refl

rows-too-short : positions_answer space 128 (placed numbers table_bytes) (record { rows = replicate 7 0; cells = replicate 12 0 }) ≡ refuse 12 0
unfolding positions
rows-too-short = refl

-- Refusals, each before the next

numbers-contradict : cell_position_answer space 128 (placed (11 ∷ []) table_bytes) 0 ∷ cell_position_answer space 127 (placed numbers table_bytes) 0 ∷ [] ≡ refuse 13 0 ∷ refuse 13 0 ∷ []
unfolding positions
numbers-contradict = refl

-- no line, of one byte
contradiction-before-no-lines : cell_position_answer space 128 (record { drawing = record { lines = 0; bytes = 1; lengths = []; columns = []; text = [] }; numbers = []; table_bytes = [] }) 0 ≡ refuse 13 0
unfolding positions
contradiction-before-no-lines = refl

contradiction-before-limit : cell_position_answer space 128 (given (20 ∷ 30 ∷ 65536 ∷ [])) 0 ≡ refuse 13 0
unfolding positions
contradiction-before-limit = refl

byte-past-its-limit : cell_position_answer space 128 (given (20 ∷ 30 ∷ 65536 ∷ 50 ∷ [])) 0 ≡ refuse 2 0
unfolding positions
byte-past-its-limit = refl

-- as given: line 0 is fine, and a position may pass what its numbers may not
limits-of-numbers : cell_position_answer space 128 (placed (11 ∷ 13 ∷ 17 ∷ 19 ∷ 65536 ∷ 29 ∷ []) table_bytes) 9 ∷ cell_position_answer space 128 (placed (0 ∷ 13 ∷ 17 ∷ 19 ∷ 65535 ∷ 29 ∷ []) (100 ∷ 200 ∷ 300 ∷ 400 ∷ 65535 ∷ 600 ∷ [])) 2 ∷ []
    ≡ refuse 2 0 ∷ accept (record { start_line = 65535; start_column = 65537; end_line = 65535; end_column = 65541 }) ∷ []
unfolding positions
limits-of-numbers = refl

-- a line `x` with a carriage return, whose number is past the limit
numbers-before-set : cell_position_answer space 128 (record { drawing = record { lines = 1; bytes = 2; lengths = 2 ∷ []; columns = 0 ∷ []; text = ascii "x\r" }; numbers = 65536 ∷ []; table_bytes = 5 ∷ [] }) 0 ≡ refuse 2 0
unfolding positions
numbers-before-set = refl
