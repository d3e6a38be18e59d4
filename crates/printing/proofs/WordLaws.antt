-- Laws of a line of words: what is written is what is printed.
use Prim.Native.Nat.{ℕ, ◌+◌, ◌*◌, ◌<◌}
use mathlib.Core.Path.{◌≡◌}
use mathlib.Core.List.{List, [], ◌∷◌, ◌++◌, append_assoc}
use lib.ListN.{get_or}
use Rattle.seq.specs.Ascii.{ascii}
use Rattle.grid.specs.Listing.{line_feed, printed, refused_line}
use Rattle.printing.specs.Printing.{Put, Prints, spaced, cell_printed}
use Rattle.printing.proofs.PutLaws.{put_then, put_as, put-prints}

abbrev cell_word : List ℕ
cell_word = 0x63 ∷ 0x65 ∷ 0x6c ∷ 0x6c ∷ []

abbrev refused_word : List ℕ
refused_word = 0x72 ∷ 0x65 ∷ 0x66 ∷ 0x75 ∷ 0x73 ∷ 0x65 ∷ 0x64 ∷ []

pub cell-put : {d e f : List ℕ} {at mid r : ℕ} (cells : List ℕ) (i a b x y z : ℕ) → (a ≡ get_or cells (5 * i) 0) × (a < 65536) → (b ≡ get_or cells (5 * i + 1) 0) × (b < 65536)
    → (x ≡ get_or cells (5 * i + 2) 0) × (x < 65536) → (y ≡ get_or cells (5 * i + 3) 0) × (y < 65536)
    → Put 109 d e at mid (cell_word ++ spaced (a ∷ b ∷ x ∷ y ∷ z ∷ [])) → Put 1 e f mid r (line_feed ∷ []) → Put 110 d f at r (cell_printed cells i z)
unfolding spaced printed ascii
cell-put cells i a b x y z ha hb hx hy p q = put_as (put_then p q) (rw (← ha.0, ← hb.0, ← hx.0, ← hy.0) (simp append_assoc))

pub refused-put : {d e f : List ℕ} {mid r : ℕ} (a b : ℕ) → Put 49 d e 0 mid (refused_word ++ spaced (a ∷ b ∷ [])) → Put 1 e f mid r (line_feed ∷ [])
    → Prints f r (refused_line a b)
unfolding spaced printed ascii
refused-put a b p q = put-prints (put_as (put_then p q) (simp append_assoc))
