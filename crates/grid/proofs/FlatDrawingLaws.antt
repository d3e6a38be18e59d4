-- The flat form of a drawing is of its sizes (`drawing-fits`), and taken apart it is the drawing again (`drawing-again`).
use mathlib.Core.Path.{◌≡◌, refl, ap, ◌∙◌}
use mathlib.Core.Bool.{false, not}
use mathlib.Core.List.{List, [], ◌∷◌, map, flat_map, map-map}
use borrow.Author.Tests.{eq-eqb}
use lib.ListN.{length, length-map}
use lib.Seq.{take-append_seam, drop-append_seam}
use Rattle.seq.specs.Lists.{sum}
use Rattle.seq.proofs.Tests.{and_intro}
use Rattle.seq.proofs.FlatMaps.{length-flat_map-sum}
use Rattle.grid.specs.Values.{Line}
use Rattle.grid.specs.Flat.{drawing_contradicts, split_text, lines_with, lines_of, join_text, flat_drawing}

lines_with-again : (ls : List Line)
    → lines_with (split_text (map (λ (line : Line). length line.text) ls) (join_text (map (λ (line : Line). line.text) ls))) (map (λ (line : Line). line.column) ls) ≡ ls
unfolding split_text lines_with flat_map
lines_with-again [] = refl
lines_with-again (l ∷ ls) =
    let rest = join_text (map (λ (line : Line). line.text) ls) in
    rw (take-append_seam l.text rest, drop-append_seam l.text rest, lines_with-again ls)

-- Taken apart, the flat form of a drawing is the drawing again.
pub drawing-again : (ls : List Line) → lines_of (flat_drawing ls) ≡ ls
unfolding lines_of flat_drawing
drawing-again ls = lines_with-again ls

-- its text is as long as its lines together
pub join_text-length : (ls : List Line) → length (join_text (map (λ (line : Line). line.text) ls)) ≡ sum (map (λ (line : Line). length line.text) ls)
join_text-length ls = length-flat_map-sum (λ line. line) (map (λ (line : Line). line.text) ls) ∙ ap sum (map-map length (λ (line : Line). line.text) ls)

-- It is of its sizes, so that no call refuses it with 13.
pub drawing-fits : (ls : List Line) → drawing_contradicts (flat_drawing ls) ≡ false
unfolding drawing_contradicts flat_drawing
drawing-fits ls =
    ap not
    (and_intro
    (and_intro
    (and_intro (eq-eqb (length (map (λ (line : Line). length line.text) ls)) (length ls) (length-map ls (λ (line : Line). length line.text)))
    (eq-eqb (length (map (λ (line : Line). line.column) ls)) (length ls) (length-map ls (λ (line : Line). line.column))))
    (eq-eqb (length (join_text (map (λ (line : Line). line.text) ls))) (sum (map (λ (line : Line). length line.text) ls)) (join_text-length ls)))
    (eq-eqb (sum (map (λ (line : Line). length line.text) ls)) (sum (map (λ (line : Line). length line.text) ls)) refl))
