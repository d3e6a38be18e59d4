-- What the functions that print write.
use Rattle.std.specs.Prelude.{ℕ, ◌+◌, ◌*◌, ◌≤◌, ◌≡◌, List, [], ◌∷◌, ◌++◌, length, take, get_or}
use Rattle.seq.specs.Ascii.{ascii}
use Rattle.seq.specs.Decimal.{decimal}
use Rattle.text.specs.Characters.{space}
use Rattle.grid.specs.Listing.{printed}

-- `part` was written into a buffer at `at`: what stood before it stays, the next place is r, at most `most` on
pub record Put (most : ℕ) (before after : List ℕ) (at r : ℕ) (part : List ℕ) : Type 0 where
  pub same : length after ≡ length before
  pub room : r ≤ length before
  pub few : r ≤ at + most
  pub bytes : take r after ≡ take at before ++ part

-- a buffer's first r bytes are `part`
pub record Prints (out : List ℕ) (r : ℕ) (part : List ℕ) : Type 0 where
  pub within : r ≤ length out
  pub start : take r out ≡ part

-- each number after a space
unfoldable pub spaced : List ℕ → List ℕ
spaced [] = []
spaced (n ∷ ns) = space ∷ decimal n ++ spaced ns

-- cell i of an array of cells, and its number of lines
abbrev pub cell_printed : List ℕ → ℕ → ℕ → List ℕ
cell_printed cells i lines =
    printed
    (ascii "cell" ∷ decimal (get_or cells (5 * i) 0) ∷ decimal (get_or cells (5 * i + 1) 0) ∷ decimal (get_or cells (5 * i + 2) 0) ∷ decimal (get_or cells (5 * i + 3) 0) ∷ decimal lines ∷ [])
