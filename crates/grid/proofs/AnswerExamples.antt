-- Computed answers of the calls that read a drawing, and what they leave in the arrays lent to them. Expected values are worked out
-- by hand from document 01, on sheets where an exchange of two numbers is seen.
use Prim.Native.Nat.{ℕ}
use mathlib.Core.Path.{◌≡◌, refl}
use mathlib.Core.Bool.{true, false}
use mathlib.Core.List.{List, [], ◌∷◌, ◌++◌}
use lib.ListN.{length, replicate}
use Rattle.seq.specs.Ascii.{ascii}
use Rattle.grid.specs.Computing.{reading}
use Rattle.grid.specs.Answer.{accept, refuse}
use Rattle.grid.specs.Values.{Line}
use Rattle.grid.specs.Slots.{Grid, grid_of}
use Rattle.grid.specs.Trace.{covered, stopped, trace_from}
use Rattle.grid.specs.Read.{drawing_too_large}
use Rattle.grid.specs.Flat.{FlatDrawing, TableArrays, lines_of}
use Rattle.grid.specs.LayoutCall.{LayoutSpace, LayoutArrays, layout_answer, layout_afterwards}
use Rattle.grid.specs.TableCall.{TableSpace, table_answer, table_afterwards, cell_answer, cell_afterwards}

-- working space of 128 lines of 128 slots, 1,024 rectangles of four numbers, 128 starts of lines and 1,024 counts
abbrev space : LayoutSpace
space = record { glyphs = 16384; offsets = 16384; down = 16384; right = 16384; rects = 4096 }

abbrev table_space : TableSpace
table_space = record { starts = 128; counts = 1024 }

-- a drawing of these line lengths, at these line columns
abbrev sheet : List ℕ → List ℕ → List ℕ → FlatDrawing
sheet lengths columns text = record { lines = length lengths; bytes = length text; lengths = lengths; columns = columns; text = text }

-- ---- one sheet with Head, Body and Foot, spans both ways, a wide character, tabs, a mark and blanks past the last border

-- the character U+3042 takes two columns and three bytes, the mark U+0301 no column and two bytes. The tab of line 5 stands at column 11
-- and takes one column, that of line 7 at column 6 and takes two
abbrev parted : FlatDrawing
parted =
    sheet (10 ∷ 12 ∷ 10 ∷ 11 ∷ 10 ∷ 10 ∷ 10 ∷ 11 ∷ 10 ∷ []) (5 ∷ 5 ∷ 5 ∷ 5 ∷ 5 ∷ 6 ∷ 5 ∷ 5 ∷ 5 ∷ [])
    (ascii "+---+----+"
    ++ ascii "| a      |  "
    ++ ascii "+:==+===:+"
    ++ ascii "| " ++ 0xe3 ∷ 0x81 ∷ 0x82 ∷ ascii "|    |"
    ++ ascii "|   +----+"
    ++ ascii "| x |\td  |"
    ++ ascii "+===+====+"
    ++ ascii "|\te|  f" ++ 0xcc ∷ 0x81 ∷ ascii " |"
    ++ ascii "+===+====+")

abbrev lent_layout : LayoutArrays
lent_layout = record { columns = replicate 6 9; rows = replicate 15 9; cells = replicate 35 9; ranges = replicate 18 9 }

pub layout-parted : layout_answer space parted lent_layout ≡ accept (record { width = 10; columns = 2; rows = 4; cells = 6; ranges = 8 })
unfolding reading
layout-parted = refl

-- Left and Right; Head, Body, Body, Foot; cells a, b, c, d, e, f; and past the result what was there
pub layout-parted-written : layout_afterwards space parted lent_layout
    ≡ record {
      columns = 1 ∷ 3 ∷ 2 ∷ 4 ∷ 9 ∷ 9 ∷ [];
      rows = 0 ∷ 0 ∷ 2 ∷ 1 ∷ 2 ∷ 4 ∷ 1 ∷ 4 ∷ 6 ∷ 2 ∷ 6 ∷ 8 ∷ 9 ∷ 9 ∷ 9 ∷ [];
      cells = 0 ∷ 0 ∷ 2 ∷ 1 ∷ 0
          ∷ 1 ∷ 0 ∷ 1 ∷ 2 ∷ 0
          ∷ 1 ∷ 1 ∷ 1 ∷ 1 ∷ 4
          ∷ 2 ∷ 1 ∷ 1 ∷ 1 ∷ 4
          ∷ 3 ∷ 0 ∷ 1 ∷ 1 ∷ 0
          ∷ 3 ∷ 1 ∷ 1 ∷ 1 ∷ 4
          ∷ 9 ∷ 9 ∷ 9 ∷ 9 ∷ 9 ∷ [];
      ranges = 1 ∷ 9 ∷ 1 ∷ 5 ∷ 1 ∷ 4 ∷ 1 ∷ 4 ∷ 6 ∷ 10 ∷ 5 ∷ 9 ∷ 1 ∷ 3 ∷ 4 ∷ 10 ∷ 9 ∷ 9 ∷ [];
    }
unfolding reading
layout-parted-written = refl

abbrev lent_table : TableArrays
lent_table = record { columns = replicate 5 9; sections = replicate 5 9; cells = replicate 31 9; lengths = replicate 8 9; text = replicate 13 0x3f }

pub table-parted : table_answer space table_space parted lent_table ≡ accept (record { columns = 2; rows = 4; cells = 6; lines = 7; bytes = 12 })
unfolding reading
table-parted = refl

-- cell b has three lines, of which the second is empty; cell c, which is blank, has none; of two blanks before `f` one stays
pub table-parted-written : table_afterwards space table_space parted lent_table
    ≡ record {
      columns = 1 ∷ 3 ∷ 2 ∷ 4 ∷ 9 ∷ [];
      sections = 0 ∷ 1 ∷ 1 ∷ 2 ∷ 9 ∷ [];
      cells = 0 ∷ 0 ∷ 2 ∷ 1 ∷ 1
          ∷ 1 ∷ 0 ∷ 1 ∷ 2 ∷ 3
          ∷ 1 ∷ 1 ∷ 1 ∷ 1 ∷ 0
          ∷ 2 ∷ 1 ∷ 1 ∷ 1 ∷ 1
          ∷ 3 ∷ 0 ∷ 1 ∷ 1 ∷ 1
          ∷ 3 ∷ 1 ∷ 1 ∷ 1 ∷ 1
          ∷ 9 ∷ [];
      lengths = 1 ∷ 3 ∷ 0 ∷ 1 ∷ 1 ∷ 2 ∷ 4 ∷ 9 ∷ [];
      text = ascii "a" ++ 0xe3 ∷ 0x81 ∷ 0x82 ∷ ascii "xd\te f" ++ 0xcc ∷ 0x81 ∷ ascii "?";
    }
unfolding reading
table-parted-written = refl

-- each cut line's index, start, end and column
pub cell-parted : cell_answer space 128 parted 1 (replicate 13 9) ≡ accept 3
unfolding reading
cell-parted = refl

pub cell-parted-wide : cell_afterwards space 128 parted 1 (replicate 13 9) ≡ 3 ∷ 2 ∷ 5 ∷ 7 ∷ 4 ∷ 1 ∷ 1 ∷ 6 ∷ 5 ∷ 2 ∷ 3 ∷ 8 ∷ 9 ∷ []
unfolding reading
cell-parted-wide = refl

pub cell-parted-blank : cell_afterwards space 128 parted 2 (replicate 4 9) ≡ 3 ∷ 6 ∷ 6 ∷ 10 ∷ []
unfolding reading
cell-parted-blank = refl

pub cell-parted-narrow-tab : cell_afterwards space 128 parted 3 (replicate 4 9) ≡ 5 ∷ 6 ∷ 7 ∷ 12 ∷ []
unfolding reading
cell-parted-narrow-tab = refl

pub cell-parted-wider-tab : cell_afterwards space 128 parted 4 (replicate 4 9) ≡ 7 ∷ 1 ∷ 3 ∷ 7 ∷ []
unfolding reading
cell-parted-wider-tab = refl

pub cell-parted-mark : cell_afterwards space 128 parted 5 (replicate 4 9) ≡ 7 ∷ 5 ∷ 9 ∷ 11 ∷ []
unfolding reading
cell-parted-mark = refl

pub cell-past-the-end : cell_answer space 128 parted 6 (replicate 13 9) ≡ refuse 13 0
unfolding reading
cell-past-the-end = refl

-- ---- two small sheets

-- two separators and neither is the last line: Head, Body, Body
pub layout-no-foot : layout_afterwards space (sheet (3 ∷ 3 ∷ 3 ∷ 3 ∷ []) (0 ∷ 0 ∷ 0 ∷ 0 ∷ []) (ascii "+-+" ++ ascii "+=+" ++ ascii "+=+" ++ ascii "+-+"))
    (record { columns = replicate 2 9; rows = replicate 9 9; cells = replicate 15 9; ranges = [] })
    ≡ record {
      columns = 0 ∷ 1 ∷ [];
      rows = 0 ∷ 0 ∷ 1 ∷ 1 ∷ 1 ∷ 2 ∷ 1 ∷ 2 ∷ 3 ∷ [];
      cells = 0 ∷ 0 ∷ 1 ∷ 1 ∷ 0 ∷ 1 ∷ 0 ∷ 1 ∷ 1 ∷ 0 ∷ 2 ∷ 0 ∷ 1 ∷ 1 ∷ 0 ∷ [];
      ranges = [];
    }
unfolding reading
layout-no-foot = refl

-- a colon of line 0 is horizontal, and centers with the one at the segment's end
pub layout-colons-of-line-0 : layout_afterwards space (sheet (5 ∷ 5 ∷ 5 ∷ []) (0 ∷ 0 ∷ 0 ∷ []) (ascii "+:-:+" ++ ascii "| a |" ++ ascii "+---+"))
    (record { columns = replicate 2 9; rows = replicate 3 9; cells = replicate 5 9; ranges = replicate 2 9 })
    ≡ record { columns = 3 ∷ 3 ∷ []; rows = 1 ∷ 0 ∷ 2 ∷ []; cells = 0 ∷ 0 ∷ 1 ∷ 1 ∷ 0 ∷ []; ranges = 1 ∷ 4 ∷ [] }
unfolding reading
layout-colons-of-line-0 = refl

-- ---- one cell, and room for less: nothing is written

abbrev small : FlatDrawing
small = sheet (3 ∷ 3 ∷ 3 ∷ []) (0 ∷ 0 ∷ 0 ∷ []) (ascii "+-+|a|+-+")

-- rows need three numbers
abbrev few_rows : LayoutArrays
few_rows = record { columns = replicate 3 9; rows = replicate 2 9; cells = replicate 5 9; ranges = replicate 3 9 }

pub layout-refused-writes-nothing : layout_afterwards space small few_rows ≡ few_rows
unfolding reading
layout-refused-writes-nothing = refl

-- lengths need one number, the text one byte
abbrev few_lengths : TableArrays
few_lengths = record { columns = replicate 3 9; sections = replicate 1 9; cells = replicate 5 9; lengths = []; text = replicate 2 9 }

pub table-refused-writes-nothing : table_afterwards space table_space small few_lengths ≡ few_lengths
unfolding reading
table-refused-writes-nothing = refl

pub cell-refused-writes-nothing : cell_afterwards space 128 small 0 (replicate 3 9) ≡ replicate 3 9
unfolding reading
cell-refused-writes-nothing = refl

-- ---- refusals of a drawing, each before the next

abbrev line_of : ℕ → Line
line_of n = record { text = replicate n 0x78; column = 0 }

pub bytes-32768 : drawing_too_large (replicate 64 (line_of 512)) ≡ false
unfolding reading
bytes-32768 = refl

pub bytes-32769 : drawing_too_large (line_of 1 ∷ replicate 64 (line_of 512)) ≡ true
unfolding reading
bytes-32769 = refl

-- a carriage return is outside the set, and the first line no rule
pub set-before-rule : layout_answer space (sheet (1 ∷ 1 ∷ 1 ∷ []) (0 ∷ 0 ∷ 0 ∷ []) (ascii "xy\r")) lent_layout ≡ refuse 3 2
unfolding reading
set-before-rule = refl

-- 129 columns, and a line that does not fill them
pub width-before-fill : layout_answer space (sheet (129 ∷ 0 ∷ []) (0 ∷ 0 ∷ []) (ascii "+" ++ replicate 127 0x2d ++ ascii "+")) lent_layout ≡ refuse 2 0
unfolding reading
width-before-fill = refl

-- a border is missing, and a line is short
pub fill-before-trace : layout_answer space (sheet (3 ∷ 3 ∷ 1 ∷ []) (0 ∷ 0 ∷ 0 ∷ []) (ascii "+-+" ++ ascii "| |" ++ ascii "|")) lent_layout ≡ refuse 5 2
unfolding reading
fill-before-trace = refl

-- ---- tracing with no room left

abbrev two_cells : Grid
two_cells = grid_of (lines_of (sheet (5 ∷ 5 ∷ 5 ∷ []) (0 ∷ 0 ∷ 0 ∷ []) (ascii "+-+-+" ++ ascii "|a|b " ++ ascii "+-+-+")))

-- all columns stand on the last line; the left half is to be placed; the right half has no border at its right
pub traced-to-the-end : trace_from two_cells 0 (2 ∷ 2 ∷ 2 ∷ 2 ∷ []) ≡ covered []
unfolding reading
traced-to-the-end = refl

pub one-more-is-found : trace_from two_cells 0 (0 ∷ 0 ∷ 0 ∷ 0 ∷ []) ≡ stopped 7
unfolding reading
one-more-is-found = refl

pub no-more-is-found : trace_from two_cells 0 (2 ∷ 2 ∷ 0 ∷ 0 ∷ []) ≡ stopped 6
unfolding reading
no-more-is-found = refl
