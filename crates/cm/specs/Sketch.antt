-- A canvas and the arguments that it is drawn from, once its sizes are known.
use Rattle.std.specs.Prelude.{ℕ, ◌+◌, ◌-◌, ◌*◌, ◌≤◌, ◌<◌, ◌≡◌, cond, eqb, Some, None, length, get_or}
use mathlib.Core.List.{List, map, Memᴰ}
use Rattle.seq.specs.Lists.{any}
use Rattle.text.specs.Lines.{no_text}
use Rattle.grid.specs.Values.{TableCell}
use Rattle.grid.specs.Flat.{columns_of_array, cells_of_array}
use Rattle.drawing.specs.Plain.{Box, Canvas, canvas_width, canvas_height, box_of, corner_at, alignment_row, next_corner}
use Rattle.drawing.proofs.RuleRows.{Lined}
use Rattle.canvas.specs.Painting.{is_ruled, next_mark}
use Rattle.canvas.specs.declared.Rules.{Rules}
use Rattle.cm.specs.Board.{Lettered}

-- the lines that are rules of `=`, from the number of Head and Foot rows and where the borders of rows stand
abbrev pub rules_at : (heads foots rows : ℕ) → List ℕ → Rules
rules_at heads foots rows ys =
    record {
      head = cond (eqb heads 0) None (Some (get_or ys heads 0));
      foot = cond (eqb foots 0) None (Some (get_or ys (rows - foots) 0));
      last = cond (eqb foots 0) None (Some (get_or ys rows 0));
    }

-- the arguments: how many columns, rows, cells, Head and Foot rows; the columns and cells as lent; where the borders of columns and rows
-- stand; which column lines have a corner on the alignment line
pub record Plan : Type 0 where
  pub columns : ℕ
  pub rows : ℕ
  pub n : ℕ
  pub heads : ℕ
  pub foots : ℕ
  pub cols : List ℕ
  pub cells : List ℕ
  pub xs : List ℕ
  pub ys : List ℕ
  pub marks : List ℕ

abbrev pub plan : (columns rows n heads foots : ℕ) → (cols cells xs ys marks : List ℕ) → Plan
plan columns rows n heads foots cols cells xs ys marks =
    record { columns = columns; rows = rows; n = n; heads = heads; foots = foots; cols = cols; cells = cells; xs = xs; ys = ys; marks = marks }

-- sizes within the limits, borders that rise, and cells between them
pub record Planned (p : Plan) : Type 0 where
  pub few_columns : p.columns ≤ 127
  pub few_rows : p.rows ≤ 127
  pub few_cells : p.n ≤ 1024
  pub few_heads : p.heads ≤ p.rows
  pub few_foots : p.foots ≤ p.rows
  pub col_room : 2 * p.columns ≤ length p.cols
  pub cell_room : 5 * p.n ≤ length p.cells
  pub x_room : length p.xs ≡ 128
  pub y_room : length p.ys ≡ 128
  pub across : (i j : ℕ) → i < j → j ≤ p.columns → get_or p.xs i 0 < get_or p.xs j 0
  pub down : (i j : ℕ) → i < j → j ≤ p.rows → get_or p.ys i 0 < get_or p.ys j 0
  pub broad : (k : ℕ) → k < p.n → 0 < get_or p.cells (5 * k + 2) 0
  pub tall : (k : ℕ) → k < p.n → 0 < get_or p.cells (5 * k + 3) 0
  pub near : (k : ℕ) → k < p.n → get_or p.cells (5 * k + 1) 0 + get_or p.cells (5 * k + 2) 0 ≤ p.columns
  pub low : (k : ℕ) → k < p.n → get_or p.cells (5 * k) 0 + get_or p.cells (5 * k + 3) 0 ≤ p.rows

-- the canvas that these arguments are of
pub record Sketched (v : Canvas) (p : Plan) : Type 0 where
  pub lined : Lined v
  pub wide : canvas_width v ≡ get_or p.xs p.columns 0 + 1
  pub tall : canvas_height v ≡ get_or p.ys p.rows 0 + 1
  pub stand : (k : ℕ) → k ≤ p.columns → get_or v.xs k 0 ≡ get_or p.xs k 0
  pub columned : v.columns ≡ columns_of_array p.columns p.cols
  pub lines : List (List ℕ)
  pub framed : map (λ (b : Box). b.frame) v.boxes ≡ map (λ (c : TableCell). (box_of p.xs p.ys c).frame) (cells_of_array p.n p.cells lines)
  pub ruled : (y : ℕ) → y < 128 → any (eqb y) v.rules ≡ is_ruled (rules_at p.heads p.foots p.rows p.ys) y
  pub aligned : get_or p.ys p.heads 0 ≡ alignment_row v
  pub marked : (k : ℕ) → k < p.columns → corner_at v (alignment_row v) (get_or p.xs k 0) ≡ eqb (get_or p.marks k 0) 1
  pub next : (k : ℕ) → k < p.columns → next_corner v (alignment_row v) (get_or p.xs k 0) ≡ get_or p.xs (next_mark p.marks p.columns (k + 1)) 0

-- and its text
pub record Texted (v : Canvas) (text starts ends firsts heights : List ℕ) : Type 0 where
  pub lettered : Lettered v.boxes text starts ends firsts heights
  pub short : (c : Box) → Memᴰ c v.boxes → (i : ℕ) → length (get_or c.lines i no_text) ≤ 512
