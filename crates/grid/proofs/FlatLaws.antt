-- Laws of lines back to back in a text.
use Prim.Native.Nat.{ℕ, zero, suc, ◌≤◌, ◌<◌}
use mathlib.Core.Path.{◌≡◌, refl, ap, ap₂, ◌∙◌}
use mathlib.Core.Bool.{◌||◌}
use mathlib.Core.List.{List, [], ◌∷◌, map}
use native.Mathlib.Omega.{arith}
use lib.Dec.{ltb}
use lib.ListN.{length, get_or, take, drop, length-drop}
use lib.Seq.{length-take-le, drop-drop}
use Rattle.seq.specs.Lists.{sum, any}
use Rattle.grid.specs.Values.{Line}
use Rattle.grid.specs.Limits.{max_line_bytes, max_origin}
use Rattle.grid.specs.Flat.{split_text, lines_with, lines_from}
use Rattle.grid.specs.Read.{line_too_large}
use Rattle.seq.proofs.Walks.{or-middle}
use Rattle.text.specs.Lines.{no_text}

pub length-lines : (lengths columns text : List ℕ) → length (lines_from lengths columns text) ≡ length lengths
unfolding split_text lines_with
length-lines [] columns text = refl
length-lines (n ∷ ns) columns text = ap suc (length-lines ns (drop 1 columns) (drop n text))

-- the lines of a text that is long enough have these lengths
pub lengths-lines : (lengths columns text : List ℕ) → sum lengths ≤ length text
    → map (λ (line : Line). length line.text) (lines_from lengths columns text) ≡ lengths
unfolding split_text lines_with sum
lengths-lines [] columns text h = refl
lengths-lines (n ∷ ns) columns text h =
    let later = lengths-lines ns (drop 1 columns) (drop n text) (omega (arith, length-drop n text)) in
    rw (length-take-le n text (omega arith), later)

-- a limit on lines is a limit on their lengths and one on their columns
pub any-line-too-large : (lengths columns text : List ℕ) → length columns ≡ length lengths → sum lengths ≤ length text
    → any line_too_large (lines_from lengths columns text) ≡ any (λ n. ltb max_line_bytes n) lengths || any (λ n. ltb max_origin n) columns
unfolding split_text lines_with sum any
any-line-too-large [] [] text e h = refl
any-line-too-large [] (c ∷ cs) text e h = absurd (omega arith)
any-line-too-large (n ∷ ns) [] text e h = absurd (omega arith)
any-line-too-large (n ∷ ns) (c ∷ cs) text e h =
    let later = any-line-too-large ns cs (drop n text) (omega arith) (omega (arith, length-drop n text)) in
    rw (length-take-le n text (omega arith), later)
    (or-middle (ltb max_line_bytes n) (ltb max_origin c) (any (λ n. ltb max_line_bytes n) ns) (any (λ n. ltb max_origin n) cs))

pub length-split : (ns t : List ℕ) → length (split_text ns t) ≡ length ns
unfolding split_text
length-split [] t = refl
length-split (n ∷ ns) t = ap suc (length-split ns (drop n t))

-- the lines of a text have the lengths by which it was taken apart, and line i starts after those before it
pub split-lengths : (lengths text : List ℕ) → sum lengths ≤ length text → map length (split_text lengths text) ≡ lengths
unfolding split_text sum
split-lengths [] text h = refl
split-lengths (n ∷ ns) text h =
    ap₂ ◌∷◌ (length-take-le n text (omega arith)) (split-lengths ns (drop n text) (omega (arith, length-drop n text)))

pub split_at : (lengths text : List ℕ) (i : ℕ) → i < length lengths → get_or (split_text lengths text) i no_text ≡ take (get_or lengths i 0) (drop (sum (take i lengths)) text)
unfolding split_text sum
split_at [] text i h = absurd (omega arith)
split_at (n ∷ ns) text zero h = refl
split_at (n ∷ ns) text (suc i) h = split_at ns (drop n text) i (omega arith) ∙ rw (drop-drop (sum (take i ns)) n text)
