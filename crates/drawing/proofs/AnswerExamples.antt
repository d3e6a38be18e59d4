-- Computed examples of the refusals of a redraw, each before the next. Expected values were worked out by hand from document 01.
use mathlib.Core.Path.{◌≡◌, refl}
use mathlib.Core.List.{List, [], ◌∷◌, ◌++◌, map}
use Prim.Native.Nat.{ℕ}
use lib.ListN.{replicate}
use Rattle.seq.specs.Ascii.{ascii}
use Rattle.grid.specs.Answer.{refuse}
use Rattle.grid.specs.Values.{GridTableColumn, Table}
use Rattle.grid.specs.declared.TableAlignment.TheVariants.{None, Left, Right}
use Rattle.grid.specs.declared.GridTableSection.{GridTableSection}
use Rattle.grid.specs.declared.GridTableSection.TheVariants.{Head, Body, Foot}
use Rattle.drawing.specs.Computing.{redrawing}
use Rattle.drawing.specs.Redraw.{redraw}
use Rattle.drawing.proofs.ExamplesTables.{shown, col, cell, text1, mark, marks, declared, alone, under_of, under, parts, between}

-- Refusals, each before the next

pub no-cells-before-limit : redraw 0 (record { columns = []; sections = replicate 200 Body; cells = [] }) ≡ refuse 1 0
unfolding redrawing
no-cells-before-limit = refl

pub limit-before-set : redraw 256 (alone None Body (ascii "\r" ∷ [])) ≡ refuse 2 0
unfolding redrawing
limit-before-set = refl

-- a table that breaks the grid rules, and so is an 8 where no limit is passed
abbrev broken : List GridTableColumn → List GridTableSection → List (List (List ℕ)) → Table
broken columns sections cells = record { columns = columns; sections = sections; cells = map (cell 0 0 1 1) cells ++ cell 0 0 1 1 [] ∷ [] }

-- 127 and 128 columns, widths 128 and 129, 127 and 128 rows, 1,024 and 1,025 cells
pub limits-of-a-shape : map (redraw 255)
    (broken (replicate 127 (col None 1)) (Body ∷ []) ([] ∷ []) ∷ broken (replicate 128 (col None 1)) (Body ∷ []) ([] ∷ [])
    ∷ broken (col None 128 ∷ []) (Body ∷ []) ([] ∷ []) ∷ broken (col None 129 ∷ []) (Body ∷ []) ([] ∷ [])
    ∷ broken (col None 1 ∷ []) (replicate 127 Body) ([] ∷ []) ∷ broken (col None 1 ∷ []) (replicate 128 Body) ([] ∷ [])
    ∷ broken (col None 1 ∷ []) (Body ∷ []) (replicate 1023 []) ∷ broken (col None 1 ∷ []) (Body ∷ []) (replicate 1024 []) ∷ [])
    ≡ refuse 8 0 ∷ refuse 2 0 ∷ refuse 8 0 ∷ refuse 2 0 ∷ refuse 8 0 ∷ refuse 2 0 ∷ refuse 8 0 ∷ refuse 2 0 ∷ []
unfolding redrawing
limits-of-a-shape = refl

-- 128 and 129 lines in a cell, 16,384 lines in all and one more, a line of 512 and of 513 bytes, 32,768 bytes in all and one more
pub limits-of-its-text : map (λ cells. redraw 255 (broken (col None 1 ∷ []) (Body ∷ []) cells))
    ((replicate 128 [] ∷ []) ∷ (replicate 129 [] ∷ []) ∷ replicate 128 (replicate 128 []) ∷ ((([] ∷ []) ∷ replicate 128 (replicate 128 [])))
    ∷ (text1 (replicate 512 0x61) ∷ []) ∷ (text1 (replicate 513 0x61) ∷ []) ∷ (replicate 64 (replicate 512 0x61) ∷ [])
    ∷ ((ascii "a" ∷ replicate 64 (replicate 512 0x61)) ∷ []) ∷ [])
    ≡ refuse 8 0 ∷ refuse 2 0 ∷ refuse 8 0 ∷ refuse 2 0 ∷ refuse 8 0 ∷ refuse 2 0 ∷ refuse 8 0 ∷ refuse 2 0 ∷ []
unfolding redrawing
limits-of-its-text = refl

pub dropped-lines-count : redraw 0 (alone None Foot (ascii "a" ∷ [] ∷ ascii "\r" ∷ [])) ≡ refuse 3 2
unfolding redrawing
dropped-lines-count = refl

-- two rows of one column
abbrev pair : GridTableSection → GridTableSection → List (List ℕ) → Table
pair a b lines = record { columns = col None 1 ∷ []; sections = a ∷ b ∷ []; cells = cell 0 0 1 1 [] ∷ cell 1 0 1 1 lines ∷ [] }

pub set-before-rules : redraw 0 (pair Body Head (ascii "a" ∷ ascii "\r" ∷ [])) ≡ refuse 3 1
unfolding redrawing
set-before-rules = refl

pub sections-turned : redraw 0 (pair Foot Head []) ∷ redraw 0 (pair Foot Body []) ∷ redraw 0 (pair Body Head []) ∷ []
    ≡ refuse 8 0 ∷ refuse 8 0 ∷ refuse 8 0 ∷ []
unfolding redrawing
sections-turned = refl

pub rules-before-foot : redraw 0 (parts Foot Body Foot) ≡ refuse 8 0
unfolding redrawing
rules-before-foot = refl

pub foot-alone : redraw 0 (alone Left Foot []) ≡ refuse 9 0
unfolding redrawing
foot-alone = refl

pub foot-before-corner : redraw 0 (under_of Foot None Left []) ≡ refuse 9 0
unfolding redrawing
foot-before-corner = refl

pub no-corner-at-the-left : redraw 0 (under None Left (text1 (ascii "a"))) ≡ refuse 10 1
unfolding redrawing
no-corner-at-the-left = refl

pub corner-before-size : redraw 0 (under None Right (text1 (replicate 200 0x61))) ≡ refuse 10 1
unfolding redrawing
corner-before-size = refl

pub drawn-129-wide : redraw 0 (declared 127 None Body []) ≡ refuse 2 0
unfolding redrawing
drawn-129-wide = refl

pub drawn-129-lines : redraw 0 (alone None Body (replicate 127 (ascii "a"))) ≡ refuse 2 0
unfolding redrawing
drawn-129-lines = refl

pub drawn-too-wide : redraw 0 (alone None Body (text1 (replicate 127 0x61))) ≡ refuse 2 0
unfolding redrawing
drawn-too-wide = refl

pub drawn-513-bytes : redraw 0 (alone None Body (text1 (ascii "xx" ++ marks))) ≡ refuse 2 0
unfolding redrawing
drawn-513-bytes = refl

-- line 1 has 514 bytes, and the middle cell a bar between the two corners
pub size-before-split : redraw 0 (between (text1 (ascii "x" ++ marks)) (text1 (ascii "a|"))) ≡ refuse 2 0
unfolding redrawing
size-before-split = refl

-- Split

pub splits-at-the-corner : redraw 0 (between [] (text1 (ascii "|" ++ mark ++ ascii "a"))) ≡ refuse 11 2
unfolding redrawing
splits-at-the-corner = refl

-- the cell's borders are lines 4 and 6, and columns 3 and 7
pub splits-in-a-later-column : redraw 0
    (record {
      columns = replicate 3 (col None 1);
      sections = replicate 3 Body;
      cells = cell 0 0 1 1 (ascii "p" ∷ ascii "q" ∷ ascii "r" ∷ []) ∷ cell 0 1 1 1 [] ∷ cell 0 2 1 1 [] ∷ cell 1 0 1 1 [] ∷ cell 1 1 2 1 (text1 (ascii "|a"))
          ∷ cell 2 0 1 1 [] ∷ cell 2 1 1 1 [] ∷ cell 2 2 1 1 [] ∷ [];
    }) ≡ refuse 11 4
unfolding redrawing
splits-in-a-later-column = refl

pub blank-line-keeps-it-whole : shown (redraw 0 (between [] (ascii "|a" ∷ [] ∷ ascii "+" ∷ [])))
    ≡ ascii "+-+-+\n| | |\n+-+-+\n| |a|\n|   |\n| + |\n+-+-+\n| | |\n+-+-+\n"
unfolding redrawing
blank-line-keeps-it-whole = refl

pub corner-below-alone-splits-nothing : shown (redraw 0 (under None None (text1 (ascii "|y")))) ≡ ascii "+---+\n| |y|\n+-+-+\n| | |\n+-+-+\n"
unfolding redrawing
corner-below-alone-splits-nothing = refl

pub corner-above-alone-splits-nothing : shown
    (redraw 0
    (record {
      columns = col None 1 ∷ col None 1 ∷ [];
      sections = Body ∷ Body ∷ [];
      cells = cell 0 0 1 1 [] ∷ cell 0 1 1 1 [] ∷ cell 1 0 2 1 (text1 (ascii "|y")) ∷ [];
    }))
    ≡ ascii "+-+-+\n| | |\n+-+-+\n| |y|\n+---+\n"
unfolding redrawing
corner-above-alone-splits-nothing = refl
