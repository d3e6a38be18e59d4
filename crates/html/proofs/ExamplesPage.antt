-- Computed examples of the tree of tags, of escaping and of what the program prints. Expected values were worked out by hand.
use mathlib.Core.Path.{◌≡◌, refl}
use mathlib.Core.Bool.{true, false}
use mathlib.Core.List.{[], ◌∷◌, map}
use mathlib.Core.Option.{none, some}
use Rattle.seq.specs.Ascii.{ascii}
use Rattle.html.specs.Computing.{rendering}
use Rattle.html.specs.Tags.{nothing, text, single, element, read_tags}
use Rattle.html.specs.Escaping.{escape, unescape, inner_of}
use Rattle.html.specs.PageListing.{page_listing}

-- Tags

tags-read : read_tags (ascii "<tr>\n<td colspan=\"2\" align=\"right\">a b</td></tr>")
    ≡ some (element (record { name = ascii "tr"; attributes = [] })
    (text (ascii "\n") (element (record { name = ascii "td"; attributes = record { name = ascii "colspan"; value = ascii "2" } ∷ record { name = ascii "align"; value = ascii "right" } ∷ [] })
    (text (ascii "a b") nothing) nothing)) nothing)
unfolding rendering
tags-read = refl

column-alone : read_tags (ascii "<col style=\"width:50%\" />x")
    ≡ some (single (record { name = ascii "col"; attributes = record { name = ascii "style"; value = ascii "width:50%" } ∷ [] }) (text (ascii "x") nothing))
unfolding rendering
column-alone = refl

-- a closing tag that is missing, another one's, or too many
tags-out-of-place : map read_tags (ascii "<tr>" ∷ ascii "<tr></td>" ∷ ascii "</tr>" ∷ ascii "<tr></tr></tr>" ∷ []) ≡ none ∷ none ∷ none ∷ none ∷ []
unfolding rendering
tags-out-of-place = refl

-- Escaping

escaped-by-name : escape (ascii "a<b> & \"c\"") ≡ ascii "a&lt;b&gt; &amp; \"c\""
unfolding rendering
escaped-by-name = refl

names-taken-back : map (unescape 9) (ascii "&amp;lt;" ∷ ascii "&gt;&lt;" ∷ ascii "&co" ∷ []) ≡ ascii "&lt;" ∷ ascii "><" ∷ ascii "&co" ∷ []
unfolding rendering
names-taken-back = refl

lines-parted : map inner_of ([] ∷ (ascii "a" ∷ []) ∷ (ascii "a" ∷ [] ∷ ascii "<" ∷ []) ∷ []) ≡ [] ∷ ascii "a" ∷ ascii "a<br />\n<br />\n&lt;" ∷ []
unfolding rendering
lines-parted = refl

-- The program

page-printed : page_listing false (ascii "+---+---+\n| a | < |\n+---+---+\n")
    ≡ ascii "<table>\n<tbody>\n<tr>\n<td>a</td>\n<td>&lt;</td>\n</tr>\n</tbody>\n</table>\n"
unfolding rendering
page-printed = refl

page-with-widths : page_listing true (ascii "+-:+\n| a|\n| b|\n+==+\n")
    ≡ ascii "<table>\n<colgroup>\n<col style=\"width:100%\" />\n</colgroup>\n<thead>\n<tr>\n<th>a<br />\nb</th>\n</tr>\n</thead>\n</table>\n"
unfolding rendering
page-with-widths = refl

page-refused : map (page_listing false) ([] ∷ ascii "+::+\n" ∷ []) ≡ ascii "refused 1 0\n" ∷ ascii "refused 4 0\n" ∷ []
unfolding rendering
page-refused = refl
