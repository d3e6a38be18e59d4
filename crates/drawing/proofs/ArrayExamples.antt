-- Computed examples of the arrays that calls are lent: each too short, and what is written. Expected values are worked out by hand from
-- document 01.
use mathlib.Core.Path.{◌≡◌, refl}
use mathlib.Core.List.{[], ◌∷◌, ◌++◌, map}
use Prim.Native.Nat.{ℕ}
use lib.ListN.{replicate}
use Rattle.seq.specs.Ascii.{ascii}
use Rattle.grid.specs.Answer.{accept, refuse}
use Rattle.grid.specs.Values.{Table}
use Rattle.grid.specs.Flat.{FlatDrawing, table_sizes, table_arrays}
use Rattle.grid.specs.LayoutCall.{LayoutSpace, drawing}
use Rattle.grid.specs.TableCall.{TableSpace}
use Rattle.grid.specs.declared.TableAlignment.TheVariants.{None}
use Rattle.grid.specs.declared.GridTableSection.TheVariants.{Body}
use Rattle.drawing.specs.Computing.{redrawing}
use Rattle.drawing.specs.RedrawCall.{RedrawSpace, DrawingArrays, table_given, table_lent, drawing_lent, redraw_answer, redraw_afterwards}
use Rattle.drawing.specs.SheetCall.{SheetSpace, SheetAnswer, redrawn, unread, undrawn, sheet_answer, sheet_afterwards}
use Rattle.drawing.proofs.ExamplesTables.{text1, mark, alone, between}

-- The redraw call

abbrev space_of : (starts ends firsts heights wides rects canvas : ℕ) → RedrawSpace
space_of starts ends firsts heights wides rects canvas =
    record { starts = starts; ends = ends; firsts = firsts; heights = heights; wides = wides; rects = rects; canvas = canvas }

abbrev space : RedrawSpace
space = space_of 16384 16384 1024 1024 1024 4096 16384

-- room for so many numbers in each array
abbrev lent : ℕ → ℕ → ℕ → DrawingArrays
lent lengths columns text = drawing_lent (replicate lengths 91) (replicate columns 92) (replicate text 0x5d)

abbrev given : Table
given = alone None Body (text1 (ascii "b" ++ mark))

pub drawing-written : redraw_afterwards space 7 (table_sizes given) (table_arrays given) (lent 4 4 15)
    ≡ drawing_lent (4 ∷ 6 ∷ 4 ∷ 91 ∷ []) (7 ∷ 7 ∷ 7 ∷ 92 ∷ []) (ascii "+--+| b" ++ mark ++ ascii "|+--+]")
unfolding redrawing
drawing-written = refl

pub sizes-drawn : redraw_answer space 7 (table_sizes given) (table_arrays given) (lent 3 3 14) ≡ accept (record { lines = 3; bytes = 14 })
unfolding redrawing
sizes-drawn = refl

pub each-output-too-short : map (redraw_answer space 7 (table_sizes given) (table_arrays given)) (lent 2 3 14 ∷ lent 3 2 14 ∷ lent 3 3 13 ∷ [])
    ≡ replicate 3 (refuse 12 0)
unfolding redrawing
each-output-too-short = refl

pub refused-redraw-writes-nothing : redraw_afterwards space 7 (table_sizes given) (table_arrays given) (lent 3 2 14) ≡ lent 3 2 14
unfolding redrawing
refused-redraw-writes-nothing = refl

-- exactly the lengths that are named, at the largest origin
pub space-as-named : redraw_answer space 255 (table_sizes given) (table_arrays given) (lent 3 3 14) ≡ accept (record { lines = 3; bytes = 14 })
unfolding redrawing
space-as-named = refl

pub each-space-too-short : map (λ w. redraw_answer w 255 (table_sizes given) (table_arrays given) (lent 3 3 14))
    (space_of 16383 16384 1024 1024 1024 4096 16384 ∷ space_of 16384 16383 1024 1024 1024 4096 16384
    ∷ space_of 16384 16384 1023 1024 1024 4096 16384 ∷ space_of 16384 16384 1024 1023 1024 4096 16384
    ∷ space_of 16384 16384 1024 1024 1023 4096 16384 ∷ space_of 16384 16384 1024 1024 1024 4095 16384
    ∷ space_of 16384 16384 1024 1024 1024 4096 16383 ∷ []) ≡ replicate 7 (refuse 13 0)
unfolding redrawing
each-space-too-short = refl

pub contradiction-before-no-cells : redraw_answer space 0 (table_given 0 1 0 0 0) (table_lent [] [] [] [] []) (lent 0 0 0) ≡ refuse 13 0
unfolding redrawing
contradiction-before-no-cells = refl

abbrev splitting : Table
splitting = between [] (text1 (ascii "|a"))

pub split-before-output : redraw_answer space 0 (table_sizes splitting) (table_arrays splitting) (lent 0 0 0) ≡ refuse 11 2
unfolding redrawing
split-before-output = refl

-- From a sheet to its redrawing

abbrev read_space : LayoutSpace
read_space = record { glyphs = 16384; offsets = 16384; down = 16384; right = 16384; rects = 4096 }

abbrev narrow : LayoutSpace
narrow = record { glyphs = 16384; offsets = 16384; down = 16383; right = 16384; rects = 4096 }

abbrev more_space : TableSpace
more_space = record { starts = 128; counts = 1024 }

abbrev held_of : (columns sections cells lengths text : ℕ) → SheetSpace
held_of columns sections cells lengths text = record { columns = columns; sections = sections; cells = cells; lengths = lengths; text = text }

abbrev held : SheetSpace
held = held_of 254 127 5120 16384 32768

-- with just the working space that is named
abbrev answer : FlatDrawing → ℕ → DrawingArrays → SheetAnswer
answer d origin out = sheet_answer read_space more_space held space d origin out

abbrev leaves : FlatDrawing → ℕ → DrawingArrays → DrawingArrays
leaves d origin out = sheet_afterwards read_space more_space held space d origin out

-- two cells whose text stands in the first column of each; line 0 ends with a blank
abbrev sheet : FlatDrawing
sheet = drawing 3 28 (10 ∷ 9 ∷ 9 ∷ []) (2 ∷ 13 ∷ 24 ∷ []) (ascii "+----+--+ |a   |b |+----+--+")

-- no rule on the first line; a second line that is too short
abbrev ruleless : FlatDrawing
ruleless = drawing 1 1 (1 ∷ []) (3 ∷ []) (ascii "x")

abbrev ragged : FlatDrawing
ragged = drawing 2 5 (3 ∷ 2 ∷ []) (4 ∷ 5 ∷ []) (ascii "+-+||")

-- a colon of column 1 in the border of a cell over both columns
abbrev cornerless : FlatDrawing
cornerless = drawing 5 30 (replicate 5 6) (replicate 5 8) (ascii "+-+:-+|    |+-+--+| |  |+-+--+")

-- a bar that moves into the second column, between two corners
abbrev barred : FlatDrawing
barred = drawing 7 35 (replicate 7 5) (replicate 7 9) (ascii "+-+-+| | |+-+-+||a |+-+-+| | |+-+-+")

pub sheet-redrawn : leaves sheet 7 (lent 4 4 28) ≡ drawing_lent (9 ∷ 9 ∷ 9 ∷ 91 ∷ []) (7 ∷ 7 ∷ 7 ∷ 92 ∷ []) (ascii "+----+--+| a  | b|+----+--+]")
unfolding redrawing
sheet-redrawn = refl

pub sheet-sizes : answer sheet 7 (lent 3 3 27) ≡ redrawn (record { lines = 3; bytes = 27 })
unfolding redrawing
sheet-sizes = refl

-- each step's refusals under its own name; reading's come before redraw's, whatever the origin and the room
pub each-step-named : map (λ d. answer d 256 (lent 0 0 0)) (ruleless ∷ ragged ∷ sheet ∷ []) ≡ unread 4 0 ∷ unread 5 1 ∷ undrawn 2 0 ∷ []
unfolding redrawing
each-step-named = refl

-- 10 and 11 before 12
pub redraw-before-output : map (λ d. answer d 7 (lent 0 0 0)) (cornerless ∷ barred ∷ sheet ∷ []) ≡ undrawn 10 1 ∷ undrawn 11 2 ∷ undrawn 12 0 ∷ []
unfolding redrawing
redraw-before-output = refl

pub each-redrawing-too-long : map (answer sheet 7) (lent 2 3 27 ∷ lent 3 2 27 ∷ lent 3 3 26 ∷ []) ≡ replicate 3 (undrawn 12 0)
unfolding redrawing
each-redrawing-too-long = refl

-- refused by the reading step, by the redraw step, with 12, and with 13
pub refused-sheet-writes-nothing : leaves ruleless 7 (lent 4 4 28) ∷ leaves barred 7 (lent 9 9 99) ∷ leaves sheet 7 (lent 4 2 28)
    ∷ sheet_afterwards read_space more_space (held_of 254 127 5120 16384 32767) space sheet 7 (lent 4 4 28) ∷ []
    ≡ lent 4 4 28 ∷ lent 9 9 99 ∷ lent 4 2 28 ∷ lent 4 4 28 ∷ []
unfolding redrawing
refused-sheet-writes-nothing = refl

-- 13 before reading's refusals: sizes that are contradicted, the reading step's working space, the table's arrays, the redraw step's
pub sizes-contradicted : answer (drawing 1 2 (1 ∷ []) (3 ∷ []) (ascii "x")) 7 (lent 0 0 0) ≡ unread 13 0
unfolding redrawing
sizes-contradicted = refl

pub read-space-too-short : sheet_answer narrow more_space held space ruleless 7 (lent 0 0 0)
    ∷ sheet_answer read_space (record { starts = 128; counts = 1023 }) held space ruleless 7 (lent 0 0 0) ∷ [] ≡ replicate 2 (unread 13 0)
unfolding redrawing
read-space-too-short = refl

pub each-held-too-short : map (λ h. sheet_answer read_space more_space h space ruleless 7 (lent 0 0 0))
    (held_of 253 127 5120 16384 32768 ∷ held_of 254 126 5120 16384 32768 ∷ held_of 254 127 5119 16384 32768 ∷ held_of 254 127 5120 16383 32768
    ∷ held_of 254 127 5120 16384 32767 ∷ []) ≡ replicate 5 (unread 13 0)
unfolding redrawing
each-held-too-short = refl

pub redraw-space-too-short : sheet_answer read_space more_space held (space_of 16384 16384 1024 1024 1023 4096 16384) ruleless 7 (lent 0 0 0) ≡ unread 13 0
unfolding redrawing
redraw-space-too-short = refl
