-- Computed examples of reading and of its refusals, at their edges. Expected values are worked out by hand from document 01.
use mathlib.Core.Path.{◌≡◌, refl}
use mathlib.Core.List.{List, [], ◌∷◌, ◌++◌, map, flat_map}
use Prim.Native.Nat.{ℕ}
use lib.ListN.{replicate}
use Rattle.seq.specs.Ascii.{ascii}
use Rattle.grid.specs.Computing.{reading}
use Rattle.grid.specs.Answer.{refuse}
use Rattle.grid.specs.Read.{read_layout}
use Rattle.grid.specs.Listing.{listing}

-- U+0301, a mark that takes no column
abbrev pub mark : List ℕ
mark = 0xcc ∷ 0x81 ∷ []

-- lines, each ended by a line feed
abbrev flatten : List (List ℕ) → List ℕ
flatten lines = flat_map (λ line. line ++ ascii "\n") lines

-- Reading

mark-takes-no-slot : listing (ascii "+--+\n|a" ++ mark ++ ascii "b|\n+--+\n") ≡ ascii "grid 4 3 1 1 1\ncol 0 2 N\nrow 0 B 0 2\ncell 0 0 1 1 1\n"
unfolding reading
mark-takes-no-slot = refl

marks-outside-the-borders : listing (ascii "+-+\n" ++ mark ++ ascii "|a|" ++ mark ++ ascii "\n+-+\n") ≡ ascii "grid 3 3 1 1 1\ncol 0 1 N\nrow 0 B 0 2\ncell 0 0 1 1 1\n"
unfolding reading
marks-outside-the-borders = refl

wide-takes-two : listing (ascii "+--+\n|" ++ 0xe3 ∷ 0x81 ∷ 0x82 ∷ ascii "|\n+--+\n") ≡ ascii "grid 4 3 1 1 1\ncol 0 2 N\nrow 0 B 0 2\ncell 0 0 1 1 1\n"
unfolding reading
wide-takes-two = refl

tab-by-its-column : listing (ascii "+----+\n|a\tb|\n+----+\n") ≡ ascii "grid 6 3 1 1 1\ncol 0 4 N\nrow 0 B 0 2\ncell 0 0 1 1 1\n"
unfolding reading
tab-by-its-column = refl

first-plus-of-the-top-is-no-edge : listing (ascii "+-+-+\n|   |\n+---+\n") ≡ ascii "grid 5 3 1 1 1\ncol 0 3 N\nrow 0 B 0 2\ncell 0 0 1 1 1\n"
unfolding reading
first-plus-of-the-top-is-no-edge = refl

not-level : listing (ascii "+-+-+\n+-++|\n|x+++\n+--++\n") ≡ ascii "refused 6 0\n"
unfolding reading
not-level = refl

spans-both-ways : listing (ascii "+---+---+\n| a     |\n+---+---+\n| b | c |\n|   +---+\n|   | d |\n+---+---+\n")
    ≡ ascii "grid 9 7 2 3 4\ncol 0 3 N\ncol 1 3 N\nrow 0 B 0 2\nrow 1 B 2 4\nrow 2 B 4 6\ncell 0 0 2 1 1\ncell 1 0 1 2 3\ncell 1 1 1 1 1\ncell 2 1 1 1 1\n"
unfolding reading
spans-both-ways = refl

each-alignment-read : listing (ascii "+:-:+---:+:----+------+\n|   |    |     |      |\n+---+----+-----+------+\n")
    ≡ ascii "grid 23 3 4 1 4\ncol 0 3 C\ncol 1 4 R\ncol 2 5 L\ncol 3 6 N\nrow 0 B 0 2\ncell 0 0 1 1 1\ncell 0 1 1 1 1\ncell 0 2 1 1 1\ncell 0 3 1 1 1\n"
unfolding reading
each-alignment-read = refl

right-by-the-segment : listing (ascii "+--:+--+\n|      |\n+------+\n") ≡ ascii "grid 8 3 1 1 1\ncol 0 6 R\nrow 0 B 0 2\ncell 0 0 1 1 1\n"
unfolding reading
right-by-the-segment = refl

aligned-under-the-head : listing (ascii "+:-:+---+\n|a  |b  |\n+:==+==:+\n|c  |d  |\n+---+---+\n")
    ≡ ascii "grid 9 5 2 2 4\ncol 0 3 L\ncol 1 3 R\nrow 0 H 0 2\nrow 1 B 2 4\ncell 0 0 1 1 1\ncell 0 1 1 1 1\ncell 1 0 1 1 1\ncell 1 1 1 1 1\n"
unfolding reading
aligned-under-the-head = refl

head-and-feet : listing (ascii "+-+\n+=+\n+-+\n+=+\n") ≡ ascii "grid 3 4 1 3 3\ncol 0 1 N\nrow 0 H 0 1\nrow 1 F 1 2\nrow 2 F 2 3\ncell 0 0 1 1 0\ncell 1 0 1 1 0\ncell 2 0 1 1 0\n"
unfolding reading
head-and-feet = refl

no-foot-above-the-last-line : listing (ascii "+-+\n+=+\n+=+\n+-+\n") ≡ ascii "grid 3 4 1 3 3\ncol 0 1 N\nrow 0 H 0 1\nrow 1 B 1 2\nrow 2 B 2 3\ncell 0 0 1 1 0\ncell 1 0 1 1 0\ncell 2 0 1 1 0\n"
unfolding reading
no-foot-above-the-last-line = refl

third-separator : listing (ascii "+-+\n+=+\n+=+\n+=+\n") ≡ ascii "grid 3 4 1 3 3\ncol 0 1 N\nrow 0 H 0 1\nrow 1 B 1 2\nrow 2 F 2 3\ncell 0 0 1 1 0\ncell 1 0 1 1 0\ncell 2 0 1 1 0\n"
unfolding reading
third-separator = refl

-- Refusals, each before the next

no_lines : listing [] ≡ ascii "refused 1 0\n"
unfolding reading
no_lines = refl

-- 128 and 129 lines, a line of 512 and of 513 bytes, 32,768 bytes and one more
limits-of-a-drawing : map listing
    (flatten (replicate 128 (ascii "x")) ∷ flatten (replicate 129 (ascii "x")) ∷ replicate 512 0x78 ∷ replicate 513 0x78
    ∷ flatten (replicate 64 (replicate 512 0x78)) ∷ (flatten (replicate 64 (replicate 512 0x78)) ++ ascii "x") ∷ [])
    ≡ ascii "refused 4 0\n" ∷ ascii "refused 2 0\n" ∷ ascii "refused 4 0\n" ∷ ascii "refused 2 0\n" ∷ ascii "refused 4 0\n" ∷ ascii "refused 2 0\n" ∷ []
unfolding reading
limits-of-a-drawing = refl

limit-of-a-column : map (λ c. read_layout (record { text = ascii "x"; column = c } ∷ [])) (255 ∷ 256 ∷ []) ≡ refuse 4 0 ∷ refuse 2 0 ∷ []
unfolding reading
limit-of-a-column = refl

widest-read : listing (flatten (replicate 2 (ascii "+" ++ replicate 126 0x2d ++ ascii "+"))) ≡ ascii "grid 128 2 1 1 1\ncol 0 126 N\nrow 0 B 0 1\ncell 0 0 1 1 0\n"
unfolding reading
widest-read = refl

-- untrimmed, the first line has 513 bytes
limit-before-set : listing (ascii "+-+" ++ replicate 510 0x20 ++ ascii "\n\r\n") ≡ ascii "refused 2 0\n"
unfolding reading
limit-before-set = refl

utf8-by-lines : listing (ascii "|" ++ 0xc3 ∷ ascii "\n" ++ 0xa9 ∷ ascii "|\n") ≡ ascii "refused 3 0\n"
unfolding reading
utf8-by-lines = refl

-- a first line of 129 bytes that no `+` closes
rule-before-width : listing (ascii "+" ++ replicate 128 0x2d ++ ascii "\n\n") ≡ ascii "refused 4 0\n"
unfolding reading
rule-before-width = refl

border-needed : listing (ascii "+---+\n|   |\n+:--+\n") ≡ ascii "refused 6 0\n"
unfolding reading
border-needed = refl
