-- What the program `redraw` prints for what it reads: the sheet's redrawing at origin 0.
use Rattle.std.specs.Prelude.{ℕ}
use mathlib.Core.List.{List, [], ◌∷◌, ◌++◌, flat_map}
use Rattle.grid.specs.Answer.{Answer, accept, refuse, and_then}
use Rattle.grid.specs.Values.{Line}
use Rattle.grid.specs.Read.{read_table}
use Rattle.grid.specs.Listing.{line_feed, lines_read, refused_line}
use Rattle.drawing.specs.Redraw.{redraw}

abbrev pub ended_line : List ℕ → List ℕ
ended_line text = text ++ line_feed ∷ []

-- a refusal as in the listing
abbrev pub redraw_listed : Answer (List Line) → List ℕ
redraw_listed (accept lines) = flat_map (λ (line : Line). ended_line line.text) lines
redraw_listed (refuse number place) = refused_line number place

unfoldable pub redraw_listing : List ℕ → List ℕ
redraw_listing input = redraw_listed (and_then (read_table (lines_read input)) (redraw 0))
