-- Computed examples of the arrays that calls are lent: each too short, each contradicting the sizes, and what they hold, taken apart.
-- Expected values are worked out by hand from document 01.
use mathlib.Core.Path.{◌≡◌, refl}
use mathlib.Core.Bool.{true, false}
use mathlib.Core.List.{List, [], ◌∷◌, ◌++◌, map}
use Prim.Native.Nat.{ℕ}
use lib.ListN.{replicate}
use Rattle.seq.specs.Ascii.{ascii}
use Rattle.grid.specs.Computing.{reading}
use Rattle.grid.specs.Answer.{accept, refuse}
use Rattle.grid.specs.Same.{normal}
use Rattle.grid.specs.Flat.{FlatDrawing, TableSizes, TableArrays, flat_drawing, lines_of, table_sizes, table_arrays, table_contradicts, table_of_arrays}
use Rattle.grid.specs.LayoutCall.{LayoutSpace, LayoutArrays, layout_answer, layout_afterwards}
use Rattle.grid.specs.TableCall.{TableSpace, table_answer, table_afterwards, cell_answer, cell_afterwards}

-- four cells in two rows and three columns; every line stands at a column of its own, and line 2 has a character of two bytes
abbrev sheet : FlatDrawing
sheet =
    record {
      lines = 6;
      bytes = 55;
      lengths = 9 ∷ 9 ∷ 10 ∷ 9 ∷ 9 ∷ 9 ∷ [];
      columns = 2 ∷ 13 ∷ 24 ∷ 35 ∷ 46 ∷ 57 ∷ [];
      text = ascii "+-+:----+|a| b   ||" ++ 0xc3 ∷ 0xa9 ∷ ascii "|     |+-+--+--+| d e|c |+----+--+";
    }

-- no line, of one byte
abbrev no_line : FlatDrawing
no_line = record { lines = 0; bytes = 1; lengths = []; columns = []; text = [] }

abbrev space : LayoutSpace
space = record { glyphs = 16384; offsets = 16384; down = 16384; right = 16384; rects = 4096 }

-- The layout call

-- room for so many numbers in each array
abbrev lent : ℕ → ℕ → ℕ → ℕ → LayoutArrays
lent columns rows cells ranges =
    record { columns = replicate columns 91; rows = replicate rows 92; cells = replicate cells 93; ranges = replicate ranges 94 }

pub accepted-call-keeps-the-rest : layout_afterwards space sheet (lent 7 7 21 13)
    ≡ record {
      columns = 0 ∷ 1 ∷ 1 ∷ 2 ∷ 0 ∷ 2 ∷ 91 ∷ [];
      rows = 1 ∷ 0 ∷ 3 ∷ 1 ∷ 3 ∷ 5 ∷ 92 ∷ [];
      cells = 0 ∷ 0 ∷ 1 ∷ 1 ∷ 0 ∷ 0 ∷ 1 ∷ 2 ∷ 1 ∷ 2 ∷ 1 ∷ 0 ∷ 2 ∷ 1 ∷ 0 ∷ 1 ∷ 2 ∷ 1 ∷ 1 ∷ 5 ∷ 93 ∷ [];
      ranges = 1 ∷ 2 ∷ 1 ∷ 3 ∷ 3 ∷ 8 ∷ 4 ∷ 9 ∷ 1 ∷ 5 ∷ 6 ∷ 8 ∷ 94 ∷ [];
    }
unfolding reading
accepted-call-keeps-the-rest = refl

pub each-output-too-short : map (layout_answer space sheet) (lent 5 6 20 12 ∷ lent 6 5 20 12 ∷ lent 6 6 19 12 ∷ lent 6 6 20 11 ∷ []) ≡ replicate 4 (refuse 12 0)
unfolding reading
each-output-too-short = refl

abbrev space_of : ℕ → ℕ → ℕ → ℕ → ℕ → LayoutSpace
space_of glyphs offsets down right rects = record { glyphs = glyphs; offsets = offsets; down = down; right = right; rects = rects }

pub each-space-too-short : map (λ w. layout_answer w sheet (lent 6 6 20 12))
    (space_of 16383 16384 16384 16384 4096 ∷ space_of 16384 16383 16384 16384 4096 ∷ space_of 16384 16384 16383 16384 4096
    ∷ space_of 16384 16384 16384 16383 4096 ∷ space_of 16384 16384 16384 16384 4095 ∷ []) ≡ replicate 5 (refuse 13 0)
unfolding reading
each-space-too-short = refl

-- one line of three bytes, with these arrays
abbrev one_line : List ℕ → List ℕ → List ℕ → FlatDrawing
one_line lengths columns text = record { lines = 1; bytes = 3; lengths = lengths; columns = columns; text = text }

-- a length more, a column more, a byte more, and lengths that do not add up to the bytes; then none of these
pub each-contradiction : map (λ d. layout_answer space d (lent 6 6 20 12))
    (one_line (3 ∷ 0 ∷ []) (0 ∷ []) (ascii "+-+") ∷ one_line (3 ∷ []) (0 ∷ 0 ∷ []) (ascii "+-+") ∷ one_line (3 ∷ []) (0 ∷ []) (ascii "+-+-")
    ∷ one_line (2 ∷ []) (0 ∷ []) (ascii "+-+") ∷ one_line (3 ∷ []) (0 ∷ []) (ascii "+-+") ∷ [])
    ≡ refuse 13 0 ∷ refuse 13 0 ∷ refuse 13 0 ∷ refuse 13 0 ∷ refuse 6 0 ∷ []
unfolding reading
each-contradiction = refl

pub contradiction-before-no-lines : layout_answer space no_line (lent 0 0 0 0) ≡ refuse 13 0
unfolding reading
contradiction-before-no-lines = refl

-- From a drawing to its table

abbrev lent_table : ℕ → ℕ → ℕ → ℕ → ℕ → TableArrays
lent_table columns sections cells lengths text =
    record { columns = replicate columns 91; sections = replicate sections 92; cells = replicate cells 93; lengths = replicate lengths 94; text = replicate text 95 }

abbrev roomy : TableSpace
roomy = record { starts = 128; counts = 1024 }

pub table-written : table_afterwards space roomy sheet (lent_table 7 3 21 6 9)
    ≡ record {
      columns = 0 ∷ 1 ∷ 1 ∷ 2 ∷ 0 ∷ 2 ∷ 91 ∷ [];
      sections = 1 ∷ 1 ∷ 92 ∷ [];
      cells = 0 ∷ 0 ∷ 1 ∷ 1 ∷ 2 ∷ 0 ∷ 1 ∷ 2 ∷ 1 ∷ 1 ∷ 1 ∷ 0 ∷ 2 ∷ 1 ∷ 1 ∷ 1 ∷ 2 ∷ 1 ∷ 1 ∷ 1 ∷ 93 ∷ [];
      lengths = 1 ∷ 2 ∷ 1 ∷ 3 ∷ 1 ∷ 94 ∷ [];
      text = ascii "a" ++ 0xc3 ∷ 0xa9 ∷ ascii "bd ec_";
    }
unfolding reading
table-written = refl

pub each-table-output-too-short : map (table_answer space roomy sheet)
    (lent_table 5 2 20 5 8 ∷ lent_table 6 1 20 5 8 ∷ lent_table 6 2 19 5 8 ∷ lent_table 6 2 20 4 8 ∷ lent_table 6 2 20 5 7 ∷ []) ≡ replicate 5 (refuse 12 0)
unfolding reading
each-table-output-too-short = refl

pub each-table-space-too-short : map (λ s. table_answer space s sheet (lent_table 6 2 20 5 8)) (record { starts = 127; counts = 1024 } ∷ record { starts = 128; counts = 1023 } ∷ []) ≡ replicate 2 (refuse 13 0)
unfolding reading
each-table-space-too-short = refl

pub table-contradiction-before-no-lines : table_answer space roomy no_line (lent_table 0 0 0 0 0) ≡ refuse 13 0
unfolding reading
table-contradiction-before-no-lines = refl

-- both inner lines of cell 1, the second of which is empty
pub cell_cut : cell_afterwards space 128 sheet 1 (replicate 9 96) ≡ 1 ∷ 4 ∷ 5 ∷ 17 ∷ 2 ∷ 4 ∷ 4 ∷ 27 ∷ 96 ∷ []
unfolding reading
cell_cut = refl

pub cell-lines-counted : map (λ room. cell_answer space 128 sheet 1 (replicate room 96)) (8 ∷ 7 ∷ []) ≡ accept 2 ∷ refuse 12 0 ∷ []
unfolding reading
cell-lines-counted = refl

pub cell-space-too-short : cell_answer space 127 sheet 3 (replicate 4 96) ≡ refuse 13 0
unfolding reading
cell-space-too-short = refl

pub cell-contradiction-before-no-lines : cell_answer space 128 no_line 0 [] ≡ refuse 13 0
unfolding reading
cell-contradiction-before-no-lines = refl

-- The arrays of a table

abbrev arrays_of : List ℕ → List ℕ → List ℕ → List ℕ → List ℕ → TableArrays
arrays_of columns sections cells lengths text = record { columns = columns; sections = sections; cells = cells; lengths = lengths; text = text }

-- two columns, two sections and two cells, with two lines and one
abbrev cs : List ℕ
cs = 3 ∷ 7 ∷ 2 ∷ 8 ∷ []

abbrev ss : List ℕ
ss = 0 ∷ 2 ∷ []

abbrev es : List ℕ
es = 0 ∷ 0 ∷ 2 ∷ 1 ∷ 2 ∷ 1 ∷ 0 ∷ 2 ∷ 1 ∷ 1 ∷ []

abbrev ls : List ℕ
ls = 1 ∷ 0 ∷ 3 ∷ []

abbrev two_cells : TableArrays
two_cells = arrays_of cs ss es ls (ascii "abcd")

abbrev two_sizes : TableSizes
two_sizes = record { columns = 2; rows = 2; cells = 2; lines = 3; bytes = 4 }

pub table-taken-apart : table_arrays (table_of_arrays two_sizes two_cells) ≡ two_cells
unfolding reading
table-taken-apart = refl

pub sizes-taken-apart : table_sizes (table_of_arrays two_sizes two_cells) ≡ two_sizes
unfolding reading
sizes-taken-apart = refl

pub sizes-agree : table_contradicts two_sizes two_cells ≡ false
unfolding reading
sizes-agree = refl

-- each array one longer; lengths that do not add up to the bytes; numbers of lines that do not add up to the lines; codes of no case
pub each-table-contradiction : map (table_contradicts two_sizes)
    (arrays_of (cs ++ 0 ∷ []) ss es ls (ascii "abcd") ∷ arrays_of cs (0 ∷ 2 ∷ 2 ∷ []) es ls (ascii "abcd") ∷ arrays_of cs ss (es ++ 0 ∷ []) ls (ascii "abcd")
    ∷ arrays_of cs ss es (1 ∷ 0 ∷ 3 ∷ 0 ∷ []) (ascii "abcd") ∷ arrays_of cs ss es ls (ascii "abcde") ∷ arrays_of cs ss es (1 ∷ 0 ∷ 2 ∷ []) (ascii "abcd")
    ∷ arrays_of cs ss (0 ∷ 0 ∷ 2 ∷ 1 ∷ 2 ∷ 1 ∷ 0 ∷ 2 ∷ 1 ∷ 2 ∷ []) ls (ascii "abcd") ∷ arrays_of (3 ∷ 7 ∷ 4 ∷ 8 ∷ []) ss es ls (ascii "abcd")
    ∷ arrays_of cs (0 ∷ 3 ∷ []) es ls (ascii "abcd") ∷ []) ≡ replicate 9 true
unfolding reading
each-table-contradiction = refl

-- more columns than cells
pub last-code-past-its-cases : table_contradicts (record { columns = 2; rows = 1; cells = 1; lines = 0; bytes = 0 })
    (record { columns = 0 ∷ 1 ∷ 4 ∷ 1 ∷ []; sections = 1 ∷ []; cells = 0 ∷ 0 ∷ 2 ∷ 1 ∷ 0 ∷ []; lengths = []; text = [] }) ≡ true
unfolding reading
last-code-past-its-cases = refl

pub drawing-taken-apart : flat_drawing (lines_of sheet) ≡ sheet
unfolding reading
drawing-taken-apart = refl

-- Sameness looks at all but the declared widths, and at lines trimmed, without empty last ones

abbrev untidy : TableArrays
untidy =
    record {
      columns = 1 ∷ 4 ∷ 2 ∷ 5 ∷ 3 ∷ 6 ∷ 0 ∷ 7 ∷ [];
      sections = 0 ∷ 1 ∷ 1 ∷ 2 ∷ [];
      cells = 0 ∷ 0 ∷ 4 ∷ 1 ∷ 3 ∷ 1 ∷ 0 ∷ 3 ∷ 2 ∷ 1 ∷ 1 ∷ 3 ∷ 1 ∷ 1 ∷ 3 ∷ [];
      lengths = 2 ∷ 1 ∷ 2 ∷ 2 ∷ 1 ∷ 0 ∷ 1 ∷ [];
      text = ascii "a\t b  cx ";
    }

pub seen-by-sameness : table_arrays (normal (table_of_arrays (record { columns = 4; rows = 4; cells = 3; lines = 7; bytes = 9 }) untidy))
    ≡ record {
      columns = 1 ∷ 0 ∷ 2 ∷ 0 ∷ 3 ∷ 0 ∷ 0 ∷ 0 ∷ [];
      sections = 0 ∷ 1 ∷ 1 ∷ 2 ∷ [];
      cells = 0 ∷ 0 ∷ 4 ∷ 1 ∷ 3 ∷ 1 ∷ 0 ∷ 3 ∷ 2 ∷ 1 ∷ 1 ∷ 3 ∷ 1 ∷ 1 ∷ 1 ∷ [];
      lengths = 1 ∷ 0 ∷ 1 ∷ 2 ∷ 1 ∷ [];
      text = ascii "ab cx";
    }
unfolding reading
seen-by-sameness = refl
