-- Text inside a page: `&`, `<` and `>` stand by their names, so that no byte of a text is read as a tag.
use Rattle.std.specs.Prelude.{ℕ, zero, suc, cond, eqb}
use mathlib.Core.List.{List, [], ◌∷◌, ◌++◌, flat_map}
use Rattle.std.proofs.Math.Option.{Option, none, some}
use Rattle.seq.specs.Ascii.{ascii}
use Rattle.html.specs.Tags.{after}

unfoldable pub escape_byte : ℕ → List ℕ
escape_byte b =
    cond (eqb b 0x26) (ascii "&amp;")
    (cond (eqb b 0x3c) (ascii "&lt;")
    (cond (eqb b 0x3e) (ascii "&gt;") (b ∷ [])))

unfoldable pub escape : List ℕ → List ℕ
escape line = flat_map escape_byte line

-- a name, and the byte that it stands for, or another name
module _ (next : List ℕ → List ℕ) where
  abbrev pub named : ℕ → Option (List ℕ) → List ℕ → List ℕ
  named b (some rest) otherwise = b ∷ next rest
  named b none otherwise = otherwise

-- a text back from what is escaped, of at most n bytes; a `&` before no name stays
unfoldable pub unescape : ℕ → List ℕ → List ℕ
unescape zero bytes = []
unescape (suc n) [] = []
unescape (suc n) (b ∷ bs) =
    cond (eqb b 0x26)
    (named (unescape n) 0x26 (after (ascii "amp;") bs)
    (named (unescape n) 0x3c (after (ascii "lt;") bs)
    (named (unescape n) 0x3e (after (ascii "gt;") bs) (b ∷ unescape n bs))))
    (b ∷ unescape n bs)

-- the inner bytes of a cell: its lines, escaped and parted by line breaks
unfoldable pub inner_of : List (List ℕ) → List ℕ
inner_of [] = []
inner_of (line ∷ []) = escape line
inner_of (line ∷ next ∷ lines) = escape line ++ ascii "<br />\n" ++ inner_of (next ∷ lines)
