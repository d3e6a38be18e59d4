-- Computed examples of drawing and of the grid rules, at their edges. Expected values were worked out by hand from document 01.
use mathlib.Core.Path.{◌≡◌, refl}
use mathlib.Core.Bool.{true, false}
use mathlib.Core.List.{List, [], ◌∷◌, ◌++◌, map, flat_map}
use Prim.Native.Nat.{ℕ}
use lib.ListN.{length, replicate}
use Rattle.seq.specs.Lists.{up_to}
use Rattle.seq.specs.Ascii.{ascii}
use Rattle.grid.specs.Answer.{Answer, accept, and_then}
use Rattle.grid.specs.Values.{TableCell, Table}
use Rattle.grid.specs.Read.{read_table}
use Rattle.grid.specs.Same.{normal}
use Rattle.grid.specs.declared.TableAlignment.TheVariants.{None, Left, Right, Center}
use Rattle.grid.specs.declared.GridTableSection.{GridTableSection}
use Rattle.grid.specs.declared.GridTableSection.TheVariants.{Head, Body, Foot}
use Rattle.drawing.specs.Computing.{redrawing}
use Rattle.drawing.specs.GridRules.{keeps_rules, in_order, all_inside, cover_once, all_start, sections_run, none_crosses}
use Rattle.drawing.specs.Sizes.{widths, heights}
use Rattle.drawing.specs.Plain.{drawn}
use Rattle.drawing.specs.Redraw.{redraw}
use Rattle.drawing.specs.Listing.{redraw_listing}
use Rattle.drawing.proofs.ExamplesTables.{shown, col, cell, text1, mark, marks, declared, alone, under, parts}

-- Sizes

least-widths : widths (under Left None []) ≡ 3 ∷ 1 ∷ []
unfolding redrawing
least-widths = refl

-- a column in which no cell stands alone is 1 wide all the same
least-width-of-none : widths
    (record {
      columns = col None 0 ∷ col None 0 ∷ col None 0 ∷ [];
      sections = Body ∷ Body ∷ [];
      cells = cell 0 0 2 1 [] ∷ cell 0 2 1 1 [] ∷ cell 1 0 1 1 [] ∷ cell 1 1 2 1 [] ∷ [];
    }) ≡ 1 ∷ 1 ∷ 1 ∷ []
unfolding redrawing
least-width-of-none = refl

lack-goes-to-the-last : widths (under None None (text1 (ascii "abcdef"))) ≡ 1 ∷ 5 ∷ []
unfolding redrawing
lack-goes-to-the-last = refl

-- of the cell's own columns, 1 and 2, and the border between them
lack-in-the-middle : widths
    (record {
      columns = replicate 4 (col None 0);
      sections = Body ∷ Body ∷ [];
      cells = cell 0 0 1 1 (text1 (ascii "xy")) ∷ cell 0 1 2 1 (text1 (ascii "abcdef")) ∷ cell 0 3 1 1 (text1 (ascii "ijklmnop"))
          ∷ cell 1 0 1 1 [] ∷ cell 1 1 1 1 [] ∷ cell 1 2 1 1 [] ∷ cell 1 3 1 1 [] ∷ [];
    }) ≡ 3 ∷ 1 ∷ 5 ∷ 9 ∷ []
unfolding redrawing
lack-in-the-middle = refl

-- cells of one column are taken before those of several, wherever they stand: the top cell lacks nothing by then
single-widths-first : widths
    (record {
      columns = col None 0 ∷ col None 0 ∷ [];
      sections = Body ∷ Body ∷ [];
      cells = cell 0 0 2 1 (text1 (ascii "abcdef")) ∷ cell 1 0 1 1 (text1 (ascii "uvwxyz")) ∷ cell 1 1 1 1 [] ∷ [];
    }) ≡ 7 ∷ 1 ∷ []
unfolding redrawing
single-widths-first = refl

-- a cell of four lines over two rows, beside a cell of these lines
abbrev tall : List (List ℕ) → Table
tall beside =
    record {
      columns = col None 0 ∷ col None 0 ∷ [];
      sections = Body ∷ Body ∷ [];
      cells = cell 0 0 1 2 (ascii "a" ∷ ascii "b" ∷ ascii "c" ∷ ascii "d" ∷ []) ∷ cell 0 1 1 1 beside ∷ cell 1 1 1 1 [] ∷ [];
    }

lack-of-height : heights (tall []) ≡ 1 ∷ 2 ∷ []
unfolding redrawing
lack-of-height = refl

single-heights-first : heights (tall (ascii "u" ∷ ascii "v" ∷ ascii "w" ∷ ascii "x" ∷ [])) ≡ 4 ∷ 1 ∷ []
unfolding redrawing
single-heights-first = refl

-- Drawing

three-sections : shown (redraw 0 (parts Head Body Foot)) ≡ ascii "+----+--+\n| x  |  |\n+:==:+==+\n|       |\n+====+==+\n|    | y|\n+====+==+\n"
unfolding redrawing
three-sections = refl

-- one column, an empty cell in each row
abbrev stack : List GridTableSection → Table
stack sections = record { columns = col None 1 ∷ []; sections = sections; cells = map (λ r. cell r 0 1 1 []) (up_to (length sections)) }

rules-between-sections : map (λ sections. shown (redraw 0 (stack sections))) ((Head ∷ Body ∷ []) ∷ (Head ∷ Head ∷ Foot ∷ []) ∷ (Head ∷ Body ∷ Foot ∷ Foot ∷ []) ∷ [])
    ≡ ascii "+-+\n| |\n+=+\n| |\n+-+\n" ∷ ascii "+-+\n| |\n+-+\n| |\n+=+\n| |\n+=+\n" ∷ ascii "+-+\n| |\n+=+\n| |\n+=+\n| |\n+-+\n| |\n+=+\n" ∷ []
unfolding redrawing
rules-between-sections = refl

each-alignment : map (λ a. shown (redraw 0 (alone a Body []))) (None ∷ Left ∷ Right ∷ Center ∷ [])
    ≡ ascii "+-+\n| |\n+-+\n" ∷ ascii "+:--+\n|   |\n+---+\n" ∷ ascii "+--:+\n|   |\n+---+\n" ∷ ascii "+:-:+\n|   |\n+---+\n" ∷ []
unfolding redrawing
each-alignment = refl

each-alignment-of-a-head : map (λ a. shown (redraw 0 (declared 4 a Head []))) (None ∷ Left ∷ Right ∷ Center ∷ [])
    ≡ ascii "+----+\n|    |\n+====+\n" ∷ ascii "+----+\n|    |\n+:===+\n" ∷ ascii "+----+\n|    |\n+===:+\n" ∷ ascii "+----+\n|    |\n+:==:+\n" ∷ []
unfolding redrawing
each-alignment-of-a-head = refl

colons-of-later-columns : shown (redraw 0 (record { columns = col None 3 ∷ col Left 4 ∷ col Center 5 ∷ []; sections = Body ∷ []; cells = cell 0 0 1 1 [] ∷ cell 0 1 1 1 [] ∷ cell 0 2 1 1 [] ∷ [] }))
    ≡ ascii "+---+:---+:---:+\n|   |    |     |\n+---+----+-----+\n"
unfolding redrawing
colons-of-later-columns = refl

right-colon-at-the-segments-end : shown (redraw 0 (under Right None [])) ≡ ascii "+----:+\n|     |\n+---+-+\n|   | |\n+---+-+\n"
unfolding redrawing
right-colon-at-the-segments-end = refl

tab-counts-four : shown (redraw 0 (alone None Body (text1 (ascii "a\tb")))) ≡ ascii "+-------+\n| a\tb   |\n+-------+\n"
unfolding redrawing
tab-counts-four = refl

tab-at-another-origin : shown (redraw 1 (alone None Body (text1 (ascii "a\tb")))) ≡ ascii "+-------+\n| a\tb|\n+-------+\n"
unfolding redrawing
tab-at-another-origin = refl

-- its text starts at column 4
tab-in-the-second-column : shown (redraw 0 (record { columns = col None 1 ∷ col None 1 ∷ []; sections = Body ∷ []; cells = cell 0 0 1 1 [] ∷ cell 0 1 1 1 (text1 (ascii "a\tb")) ∷ [] }))
    ≡ ascii "+-+-------+\n| | a\tb |\n+-+-------+\n"
unfolding redrawing
tab-in-the-second-column = refl

mark-at-a-start : shown (redraw 0 (alone None Body (text1 (mark ++ ascii "a")))) ≡ ascii "+--+\n| " ++ mark ++ ascii "a|\n+--+\n"
unfolding redrawing
mark-at-a-start = refl

trimmed-and-dropped : shown (redraw 0 (alone None Body (ascii "a \t" ∷ ascii "  " ∷ []))) ≡ ascii "+--+\n| a|\n+--+\n"
unfolding redrawing
trimmed-and-dropped = refl

drawn-128-wide : shown (redraw 0 (declared 126 None Body []))
    ≡ ascii "+" ++ replicate 126 0x2d ++ ascii "+\n|" ++ replicate 126 0x20 ++ ascii "|\n+" ++ replicate 126 0x2d ++ ascii "+\n"
unfolding redrawing
drawn-128-wide = refl

-- 126 lines in one cell
drawn-128-lines : shown (redraw 0 (alone None Body (replicate 126 (ascii "a")))) ≡ ascii "+--+\n" ++ flat_map (λ line. line) (replicate 126 (ascii "| a|\n")) ++ ascii "+--+\n"
unfolding redrawing
drawn-128-lines = refl

drawn-512-bytes : shown (redraw 0 (alone None Body (text1 (ascii "x" ++ marks)))) ≡ ascii "+--+\n| x" ++ marks ++ ascii "|\n+--+\n"
unfolding redrawing
drawn-512-bytes = refl

-- Reading back

abbrev read_back : ℕ → Table → Answer Table
read_back origin t = and_then (read_table (drawn origin t)) (λ u. accept (normal u))

reads-back-the-same : read_back 3 (parts Head Body Foot) ≡ accept (normal (parts Head Body Foot))
unfolding redrawing
reads-back-the-same = refl

tab-reads-back : read_back 2 (alone Right Body (text1 (ascii "\tx"))) ≡ accept (normal (alone Right Body (text1 (ascii "\tx"))))
unfolding redrawing
tab-reads-back = refl

-- Grid rules

-- two columns and two rows
abbrev rows : GridTableSection → GridTableSection → List TableCell → Table
rows a b cells = record { columns = col None 1 ∷ col None 1 ∷ []; sections = a ∷ b ∷ []; cells = cells }

abbrev two : List TableCell → Table
two cells = rows Head Body cells

out_of_order : in_order (two (cell 0 1 1 2 [] ∷ cell 0 0 1 2 [] ∷ [])) ≡ false
unfolding redrawing
out_of_order = refl

leaves-the-grid : all_inside (two (cell 0 0 2 1 [] ∷ cell 1 0 1 2 [] ∷ [])) ≡ false
unfolding redrawing
leaves-the-grid = refl

covered-twice : cover_once (two (cell 0 0 2 2 [] ∷ cell 0 1 1 1 [] ∷ [])) ≡ false
unfolding redrawing
covered-twice = refl

no_start : all_start (two (cell 0 0 2 1 [] ∷ cell 1 0 2 1 [] ∷ [])) ≡ false
unfolding redrawing
no_start = refl

sections-turn-back : map (λ t. sections_run t) (parts Head Foot Body ∷ parts Head Foot Head ∷ parts Body Head Head ∷ []) ≡ false ∷ false ∷ false ∷ []
unfolding redrawing
sections-turn-back = refl

crosses-a-section : none_crosses (two (cell 0 0 1 2 [] ∷ cell 0 1 1 1 [] ∷ cell 1 1 1 1 [] ∷ [])) ≡ false
unfolding redrawing
crosses-a-section = refl

-- each table breaks one rule alone: the order; a cell past the last column; past the last row; a colspan of 0; a rowspan of 0; a square
-- held twice; a square of no cell; a column without a start; a row without a start; Head after Body; a cell over two sections
each-rule-alone : map (λ t. keeps_rules t)
    (rows Body Body (cell 0 1 1 1 [] ∷ cell 0 0 1 1 [] ∷ cell 1 0 1 1 [] ∷ cell 1 1 1 1 [] ∷ [])
    ∷ rows Body Body (cell 0 0 1 1 [] ∷ cell 0 1 1 1 [] ∷ cell 1 0 1 1 [] ∷ cell 1 1 2 1 [] ∷ [])
    ∷ rows Body Body (cell 0 0 1 1 [] ∷ cell 0 1 1 1 [] ∷ cell 1 0 1 1 [] ∷ cell 1 1 1 2 [] ∷ [])
    ∷ rows Body Body (cell 0 0 2 1 [] ∷ cell 0 1 0 1 [] ∷ cell 1 0 1 1 [] ∷ cell 1 1 1 1 [] ∷ [])
    ∷ rows Body Body (cell 0 0 2 1 [] ∷ cell 0 1 1 0 [] ∷ cell 1 0 1 1 [] ∷ cell 1 1 1 1 [] ∷ [])
    ∷ rows Body Body (cell 0 0 1 1 [] ∷ cell 0 1 1 1 [] ∷ cell 1 0 2 1 [] ∷ cell 1 1 1 1 [] ∷ [])
    ∷ rows Body Body (cell 0 0 1 1 [] ∷ cell 0 1 1 1 [] ∷ cell 1 0 1 1 [] ∷ [])
    ∷ rows Body Body (cell 0 0 2 1 [] ∷ cell 1 0 2 1 [] ∷ []) ∷ rows Body Body (cell 0 0 1 2 [] ∷ cell 0 1 1 2 [] ∷ [])
    ∷ rows Body Head (cell 0 0 1 1 [] ∷ cell 0 1 1 1 [] ∷ cell 1 0 1 1 [] ∷ cell 1 1 1 1 [] ∷ [])
    ∷ rows Head Body (cell 0 0 1 2 [] ∷ cell 0 1 1 1 [] ∷ cell 1 1 1 1 [] ∷ []) ∷ []) ≡ replicate 11 false
unfolding redrawing
each-rule-alone = refl

keeps-all : keeps_rules (two (cell 0 0 2 1 [] ∷ cell 1 0 1 1 [] ∷ cell 1 1 1 1 [] ∷ [])) ≡ true
unfolding redrawing
keeps-all = refl

-- What the program prints

printed-afresh : redraw_listing (ascii "+---+\n|a  |\n+---+") ≡ ascii "+---+\n| a |\n+---+\n"
unfolding redrawing
printed-afresh = refl

refusal-printed : redraw_listing (ascii "+---+\n|a |\n+---+\n") ≡ ascii "refused 5 1\n"
unfolding redrawing
refusal-printed = refl
