-- Document 01, "Sheets at the edge": what the definitions give for each case, and what the document says.
use Rattle.std.specs.Prelude.{ℕ, Bool, true, false, get_or}
use mathlib.Core.List.{List, [], ◌∷◌, ◌++◌, map, flat_map}
use Rattle.seq.specs.Ascii.{ascii}
use Rattle.text.specs.Rule.{is_rule}
use Rattle.grid.specs.Answer.{Answer, accept, refuse, and_then}
use Rattle.grid.specs.Values.{Line, GridTableColumn, TableCell, Table}
use Rattle.grid.specs.Slots.{dash}
use Rattle.grid.specs.Read.{read_table}
use Rattle.grid.specs.Listing.{lines_read, listing, refused_line}
use Rattle.grid.specs.declared.TableAlignment.TheVariants.{None}
use Rattle.grid.specs.declared.GridTableSection.TheVariants.{Body}
use Rattle.drawing.specs.Plain.{drawn}
use Rattle.drawing.specs.Redraw.{redraw}
use Rattle.html.specs.declared.Share.{Share}
use Rattle.html.specs.Shares.{shares}

-- a case: what the definitions give and what is expected, both in print
pub record Case : Type 0 where
  pub given : List ℕ
  pub expected : List ℕ

-- a drawing, or a refusal, in print
abbrev pub drawn_text : List Line → List ℕ
drawn_text lines = flat_map (λ (line : Line). line.text ++ ascii "\n") lines

abbrev pub answer_text : Answer (List Line) → List ℕ
answer_text (accept lines) = drawn_text lines
answer_text (refuse number place) = refused_line number place

abbrev pub truth_text : Bool → List ℕ
truth_text true = ascii "true"
truth_text false = ascii "false"

-- what reading and then redrawing gives, at origin 0
unfoldable pub redrawn : List ℕ → List ℕ
redrawn input = answer_text (and_then (read_table (lines_read input)) (redraw 0))

-- what redrawing and then reading and redrawing again gives
unfoldable pub redrawn_twice : Table → List ℕ
redrawn_twice t = answer_text (and_then (and_then (redraw 0 t) read_table) (redraw 0))

abbrev pub narrow : GridTableColumn
narrow = record { alignment = None; width = 1 }

abbrev pub single : ℕ → ℕ → List (List ℕ) → TableCell
single r k lines = record { row = r; column = k; colspan = 1; rowspan = 1; lines = lines }

-- case 8: "One column, declared 1, line `ab`"
abbrev pub one : Table
one = record { columns = narrow ∷ []; sections = Body ∷ []; cells = single 0 0 (ascii "ab" ∷ []) ∷ [] }

-- cases 9 and 10: "Rows a, b; .. over both columns; c, d; declared widths 1"
abbrev pub three : List (List ℕ) → Table
three lines =
    record {
      columns = narrow ∷ narrow ∷ [];
      sections = Body ∷ Body ∷ Body ∷ [];
      cells = single 0 0 (ascii "a" ∷ []) ∷ single 0 1 (ascii "b" ∷ [])
          ∷ record { row = 1; column = 0; colspan = 2; rowspan = 1; lines = lines }
          ∷ single 2 0 (ascii "c" ∷ []) ∷ single 2 1 (ascii "d" ∷ []) ∷ [];
    }

abbrev pub split : Table
split = three (ascii "x|y" ∷ [])

abbrev pub whole : Table
whole = three (ascii "x|y" ∷ ascii "z" ∷ [])

abbrev pub line_of : List Line → ℕ → List ℕ
line_of lines n = get_or (map (λ (line : Line). line.text) lines) n []

-- case 11: "Widths 1 and 2"
abbrev pub thirds : List Share
thirds = shares (narrow ∷ record { alignment = None; width = 2 } ∷ [])

unfoldable pub cases : List Case
cases =
    record { given = listing (ascii "+\n"); expected = ascii "refused 6 0\n" }
    ∷ record {
      given = listing (ascii "+-+\n+-+\n");
      expected = ascii "grid 3 2 1 1 1\ncol 0 1 N\nrow 0 B 0 1\ncell 0 0 1 1 0\n";
    }
    ∷ record {
      given = listing (ascii "+---+---+\n| a | b |\n+---+---+\n");
      expected = ascii "grid 9 3 2 1 2\ncol 0 3 N\ncol 1 3 N\nrow 0 B 0 2\ncell 0 0 1 1 1\ncell 0 1 1 1 1\n";
    }
    ∷ record { given = redrawn (ascii "+---+---+\n| a | b |\n+---+---+\n"); expected = ascii "+---+---+\n| a | b |\n+---+---+\n" }
    ∷ record {
      given = listing (ascii "+-+\n+++\n+++\n");
      expected = ascii "grid 3 3 2 2 3\ncol 0 0 N\ncol 1 0 N\nrow 0 B 0 1\nrow 1 B 1 2\ncell 0 0 2 1 0\ncell 1 0 1 1 0\ncell 1 1 1 1 0\n";
    }
    ∷ record { given = listing (ascii "++\n++\n"); expected = ascii "refused 4 0\n" }
    ∷ record { given = listing (ascii "+::+\n"); expected = ascii "refused 4 0\n" }
    ∷ record { given = truth_text (is_rule dash (ascii "+:-:+")); expected = ascii "true" }
    ∷ record {
      given = listing (ascii "+--+\n| a|\n+==+\n");
      expected = ascii "grid 4 3 1 1 1\ncol 0 2 N\nrow 0 H 0 2\ncell 0 0 1 1 1\n";
    }
    ∷ record { given = answer_text (redraw 0 one); expected = ascii "+---+\n| ab|\n+---+\n" }
    ∷ record { given = answer_text (redraw 0 split); expected = ascii "refused 11 2\n" }
    ∷ record { given = line_of (drawn 0 split) 3; expected = ascii "| x|y |" }
    ∷ record {
      given = answer_text (redraw 0 whole);
      expected = ascii "+--+--+\n| a| b|\n+--+--+\n| x|y |\n| z   |\n+--+--+\n| c| d|\n+--+--+\n";
    }
    ∷ record {
      given = redrawn_twice whole;
      expected = ascii "+--+--+\n| a| b|\n+--+--+\n| x|y |\n| z   |\n+--+--+\n| c| d|\n+--+--+\n";
    }
    ∷ record { given = map (λ (s : Share). s.hundredths) thirds; expected = 3333 ∷ 6667 ∷ [] }
    ∷ []
