-- Computed examples of the line-end register, at its edges. Expected values were worked out by hand from document 01.
use mathlib.Core.Path.{◌≡◌, refl}
use mathlib.Core.List.{[], ◌∷◌, ◌++◌, map}
use mathlib.Core.Option.{none, some}
use Prim.Native.Nat.{ℕ}
use lib.ListN.{replicate}
use Rattle.grid.specs.Answer.{accept, refuse}
use Rattle.sourcepos.specs.Computing.{positions}
use Rattle.sourcepos.specs.declared.CellLineEnd.{CellLineEnd}
use Rattle.sourcepos.specs.LineEnds.{find_eol}
use Rattle.sourcepos.specs.LineEndCalls.{Register, add_answer, add_afterwards, find_answer, remap_answer}

abbrev at : ℕ → ℕ → ℕ → CellLineEnd
at line start eol = record { line = line; start = start; eol = eol }

-- a register that holds `count` ends, all on line 1 from 1 to 9
abbrev register : ℕ → Register
register count = record { count = count; lines = replicate 1024 1; starts = replicate 1024 1; eols = replicate 1024 9 }

-- three ends of which no two numbers that could be exchanged are the same, and past them ends that reach nearly everything
abbrev three : Register
three =
    record {
      count = 3;
      lines = 1 ∷ 2 ∷ 1 ∷ replicate 1021 1;
      starts = 4 ∷ 3 ∷ 4 ∷ replicate 1021 5;
      eols = 6 ∷ 20 ∷ 9 ∷ replicate 1021 99;
    }

-- Finding

those-that-reach-first : find_eol (at 1 1 10 ∷ at 1 2 5 ∷ []) 1 7 ≡ some 10
unfolding positions
those-that-reach-first = refl

-- in whichever order they came
last-by-start : map (λ ends. find_eol ends 1 4) ((at 1 2 5 ∷ at 1 1 10 ∷ []) ∷ (at 1 1 10 ∷ at 1 2 5 ∷ []) ∷ []) ≡ some 5 ∷ some 5 ∷ []
unfolding positions
last-by-start = refl

then-by-eol : map (λ ends. find_eol ends 1 4) ((at 1 2 9 ∷ at 1 2 5 ∷ []) ∷ (at 1 2 5 ∷ at 1 2 9 ∷ []) ∷ []) ≡ some 9 ∷ some 9 ∷ []
unfolding positions
then-by-eol = refl

both-ends-count : find_eol (at 1 2 5 ∷ at 2 6 6 ∷ []) 1 5 ≡ some 5
unfolding positions
both-ends-count = refl

none-reaches : find_eol (at 1 2 5 ∷ at 2 6 6 ∷ []) 1 6 ≡ none
unfolding positions
none-reaches = refl

found-from-start-to-eol : map (λ column. find_answer three 1 column) (3 ∷ 4 ∷ 6 ∷ 7 ∷ 9 ∷ 10 ∷ [])
    ≡ accept none ∷ accept (some 9) ∷ accept (some 9) ∷ accept (some 9) ∷ accept (some 9) ∷ accept none ∷ []
unfolding positions
found-from-start-to-eol = refl

found-on-another-line : map (λ column. find_answer three 2 column) (2 ∷ 3 ∷ 20 ∷ 21 ∷ []) ≡ accept none ∷ accept (some 20) ∷ accept (some 20) ∷ accept none ∷ []
unfolding positions
found-on-another-line = refl

none-on-a-third-line : find_answer three 3 4 ≡ accept none
unfolding positions
none-on-a-third-line = refl

only-those-held : find_answer (register 0) 1 1 ≡ accept none
unfolding positions
only-those-held = refl

-- each number on its own
limits-of-finding : map (λ line. find_answer three line 7) (0 ∷ 65535 ∷ 65536 ∷ []) ++ map (λ column. find_answer three 1 column) (0 ∷ 65535 ∷ 65536 ∷ [])
    ≡ refuse 13 0 ∷ accept none ∷ refuse 2 0 ∷ refuse 13 0 ∷ accept none ∷ refuse 2 0 ∷ []
unfolding positions
limits-of-finding = refl

no-line-before-limit : find_answer three 0 65536 ≡ refuse 13 0
unfolding positions
no-line-before-limit = refl

count-past-the-room : find_answer (register 1025) 1 1 ≡ refuse 13 0
unfolding positions
count-past-the-room = refl

abbrev sized : ℕ → ℕ → ℕ → Register
sized l s e = record { count = 1; lines = replicate l 1; starts = replicate s 1; eols = replicate e 9 }

arrays-of-another-size : find_answer (sized 1025 1024 1024) 1 1 ∷ find_answer (sized 1024 1023 1024) 1 1 ∷ find_answer (sized 1024 1024 1025) 1 1 ∷ find_answer (sized 1024 1024 1024) 1 1 ∷ []
    ≡ refuse 13 0 ∷ refuse 13 0 ∷ refuse 13 0 ∷ accept (some 9) ∷ []
unfolding positions
arrays-of-another-size = refl

-- Adding

one_more : add_answer (register 1023) (at 3 4 5) ≡ accept 1024
unfolding positions
one_more = refl

written-at-the-count : add_afterwards three (at 7 8 11)
    ≡ record {
      count = 4;
      lines = 1 ∷ 2 ∷ 1 ∷ 7 ∷ replicate 1020 1;
      starts = 4 ∷ 3 ∷ 4 ∷ 8 ∷ replicate 1020 5;
      eols = 6 ∷ 20 ∷ 9 ∷ 11 ∷ replicate 1020 99;
    }
unfolding positions
written-at-the-count = refl

-- each number on its own
limits-of-adding : map (add_answer three) (at 0 1 1 ∷ at 1 0 1 ∷ at 1 2 1 ∷ at 65536 1 1 ∷ at 1 65536 65536 ∷ at 1 1 65536 ∷ at 65535 65535 65535 ∷ [])
    ≡ refuse 13 0 ∷ refuse 13 0 ∷ refuse 13 0 ∷ refuse 2 0 ∷ refuse 2 0 ∷ refuse 2 0 ∷ accept 4 ∷ []
unfolding positions
limits-of-adding = refl

register-full : add_answer (register 1024) (at 3 4 5) ≡ refuse 14 0
unfolding positions
register-full = refl

full-register-kept : add_afterwards (register 1024) (at 3 4 5) ≡ register 1024
unfolding positions
full-register-kept = refl

no-start-before-limit : add_answer three (at 65536 0 1) ≡ refuse 13 0
unfolding positions
no-start-before-limit = refl

limit-before-full : add_answer (register 1024) (at 3 4 65536) ≡ refuse 2 0
unfolding positions
limit-before-full = refl

backwards-before-full : add_answer (register 1024) (at 3 65536 4) ≡ refuse 13 0
unfolding positions
backwards-before-full = refl

-- Remapping

-- each end by the fragment of its line alone
remapped : map (remap_answer 3 (65536 ∷ 7 ∷ 65535 ∷ []) (65536 ∷ 40 ∷ 65530 ∷ [])) (at 2 3 4 ∷ at 3 4 5 ∷ [])
    ≡ accept (at 7 43 44) ∷ accept (at 65535 65534 65535) ∷ []
unfolding positions
remapped = refl

-- a line of a fragment, an eol and both numbers past the limit
remapped-past-the-limit : map (remap_answer 3 (65536 ∷ 7 ∷ 65535 ∷ []) (65536 ∷ 40 ∷ 65530 ∷ [])) (at 1 1 1 ∷ at 3 4 6 ∷ at 2 65495 65496 ∷ [])
    ≡ refuse 2 0 ∷ refuse 2 0 ∷ refuse 2 0 ∷ []
unfolding positions
remapped-past-the-limit = refl

line-of-a-fragment : map (λ line. remap_answer 1 (line ∷ []) (5 ∷ []) (at 1 1 2)) (65535 ∷ 65536 ∷ []) ≡ accept (at 65535 6 7) ∷ refuse 2 0 ∷ []
unfolding positions
line-of-a-fragment = refl

sum-past-its-limit : remap_answer 1 (1 ∷ []) (65535 ∷ []) (at 1 1 1) ≡ refuse 2 0
unfolding positions
sum-past-its-limit = refl

-- the line of an end may not pass the limit either, however many fragments there are
line-past-its-limit : map (λ line. remap_answer 65536 (replicate 65536 7) (replicate 65536 5) (at line 1 2)) (65535 ∷ 65536 ∷ []) ≡ accept (at 7 6 7) ∷ refuse 2 0 ∷ []
unfolding positions
line-past-its-limit = refl

-- no line, a line past the fragments, no start, backwards
bad-ends-of-remapping : map (remap_answer 2 (7 ∷ 8 ∷ []) (10 ∷ 20 ∷ [])) (at 0 1 1 ∷ at 3 3 4 ∷ at 2 0 1 ∷ at 2 2 1 ∷ [])
    ≡ refuse 13 0 ∷ refuse 13 0 ∷ refuse 13 0 ∷ refuse 13 0 ∷ []
unfolding positions
bad-ends-of-remapping = refl

fragments-contradict : remap_answer 2 (7 ∷ []) (10 ∷ 20 ∷ []) (at 1 1 1) ∷ remap_answer 2 (7 ∷ 8 ∷ []) (10 ∷ []) (at 1 1 1) ∷ [] ≡ refuse 13 0 ∷ refuse 13 0 ∷ []
unfolding positions
fragments-contradict = refl

line-past-the-fragments-before-limit : remap_answer 2 (7 ∷ 8 ∷ []) (10 ∷ 20 ∷ []) (at 65536 3 4) ≡ refuse 13 0
unfolding positions
line-past-the-fragments-before-limit = refl
