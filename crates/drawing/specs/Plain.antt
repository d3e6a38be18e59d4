-- Document 01, "Drawing": "Borders, corners, `=` rules (under Head; above Foot and on the last line), colons and then text, from the
-- second column inside the cell." The plain drawing is what each column of each line puts down.
use Rattle.std.specs.Prelude.{ℕ, ◌+◌, ◌-◌, Bool, true, false, ◌&&◌, ◌||◌, cond, length, get_or, replicate, eqb, ltb}
use mathlib.Core.List.{List, [], ◌∷◌, ◌++◌, map, flat_map}
use Rattle.std.proofs.Math.Option.{Option, none, some}
use Rattle.seq.specs.Lists.{range, up_to, any, find, count, last_or, or_default}
use Rattle.text.specs.Characters.{space, plus, colon}
use Rattle.text.specs.Utf8.{char_indices}
use Rattle.text.specs.Columns.{columns_from}
use Rattle.text.specs.Lines.{no_text}
use Rattle.grid.specs.Values.{Line, Rect, GridTableColumn, TableCell, Table}
use Rattle.grid.specs.Slots.{dash, equals, pipe}
use Rattle.grid.specs.Layout.{first_of}
use Rattle.grid.specs.Same.{drawn_lines}
use Rattle.grid.specs.declared.TableAlignment.{TableAlignment}
use Rattle.grid.specs.declared.TableAlignment.TheVariants.{None, Left, Right, Center}
use Rattle.drawing.specs.GridRules.{is_head, is_foot}
use Rattle.drawing.specs.Sizes.{widths, heights, offsets}

-- a cell as drawn: its borders, and its lines, "trimmed and empty last ones dropped"
pub record Box : Type 0 where
  pub frame : Rect
  pub lines : List (List ℕ)

-- where a table's borders stand, and all that is drawn
pub record Canvas : Type 0 where
  pub xs : List ℕ
  pub ys : List ℕ
  pub boxes : List Box
  pub rules : List ℕ
  pub columns : List GridTableColumn

unfoldable pub box_of : List ℕ → List ℕ → TableCell → Box
box_of xs ys c =
    record {
      frame = record {
        top = get_or ys c.row 0;
        left = get_or xs c.column 0;
        bottom = get_or ys (c.row + c.rowspan) 0;
        right = get_or xs (c.column + c.colspan) 0;
      };
      lines = drawn_lines c.lines;
    }

abbrev pub unless_zero : ℕ → List ℕ → List ℕ
unless_zero n ys = cond (eqb n 0) [] ys

-- "`=` rules (under Head; above Foot and on the last line)", from the top; Head rows come first and Foot rows last
unfoldable pub rule_lines : Table → List ℕ → List ℕ
rule_lines t ys =
    unless_zero (count is_head t.sections) (get_or ys (count is_head t.sections) 0 ∷ [])
    ++ unless_zero (count is_foot t.sections) (get_or ys (length t.sections - count is_foot t.sections) 0 ∷ last_or ys 0 ∷ [])

unfoldable pub canvas_at : List ℕ → List ℕ → Table → Canvas
canvas_at xs ys t = record { xs = xs; ys = ys; boxes = map (box_of xs ys) t.cells; rules = rule_lines t ys; columns = t.columns }

unfoldable pub canvas_of : Table → Canvas
canvas_of t = canvas_at (offsets (widths t)) (offsets (heights t)) t

abbrev pub canvas_width : Canvas → ℕ
canvas_width v = last_or v.xs 0 + 1

abbrev pub canvas_height : Canvas → ℕ
canvas_height v = last_or v.ys 0 + 1

abbrev pub is_edge : ℕ → ℕ → ℕ → Bool
is_edge a b n = eqb n a || eqb n b

abbrev pub is_inside : ℕ → ℕ → ℕ → Bool
is_inside a b n = ltb a n && ltb n b

unfoldable pub corner_at : Canvas → ℕ → ℕ → Bool
corner_at v y x =
    any (λ (b : Box). is_edge b.frame.top b.frame.bottom y && is_edge b.frame.left b.frame.right x) v.boxes

unfoldable pub horizontal_at : Canvas → ℕ → ℕ → Bool
horizontal_at v y x =
    any (λ (b : Box). is_edge b.frame.top b.frame.bottom y && is_inside b.frame.left b.frame.right x) v.boxes

unfoldable pub vertical_at : Canvas → ℕ → ℕ → Bool
vertical_at v y x =
    any (λ (b : Box). is_edge b.frame.left b.frame.right x && is_inside b.frame.top b.frame.bottom y) v.boxes

-- the alignment line is the first `=` rule, else line 0
abbrev pub alignment_row : Canvas → ℕ
alignment_row v = or_default 0 (first_of v.rules)

-- the next corner to the right of column x on line y
unfoldable pub next_corner : Canvas → ℕ → ℕ → ℕ
next_corner v y x = or_default 0 (find (corner_at v y) (range (x + 1) (canvas_width v - (x + 1))))

abbrev pub has_left_colon : TableAlignment → Bool
has_left_colon None = false
has_left_colon Left = true
has_left_colon Right = false
has_left_colon Center = true

abbrev pub has_right_colon : TableAlignment → Bool
has_right_colon None = false
has_right_colon Left = false
has_right_colon Right = true
has_right_colon Center = true

abbrev pub column_alignment : Canvas → ℕ → TableAlignment
column_alignment v k = (get_or v.columns k (record { alignment = None; width = 0 })).alignment

-- has column k a corner at its left on the alignment line
abbrev pub has_corner : Canvas → ℕ → Bool
has_corner v k = corner_at v (alignment_row v) (get_or v.xs k 0)

-- where column k has its colons: after the corner at its left, and before the next corner
abbrev pub left_colon : Canvas → ℕ → ℕ
left_colon v k = get_or v.xs k 0 + 1

abbrev pub right_colon : Canvas → ℕ → ℕ
right_colon v k = next_corner v (alignment_row v) (get_or v.xs k 0) - 1

-- is a colon of column k drawn at column x of the alignment line
unfoldable pub draws_colon : Canvas → ℕ → ℕ → Bool
draws_colon v x k =
    has_corner v k
    && (has_left_colon (column_alignment v k) && eqb x (left_colon v k) || has_right_colon (column_alignment v k) && eqb x (right_colon v k))

unfoldable pub colon_at : Canvas → ℕ → ℕ → Bool
colon_at v y x = eqb y (alignment_row v) && any (draws_colon v x) (up_to (length v.columns))

-- a byte of a horizontal border
unfoldable pub border_byte : Canvas → ℕ → ℕ → ℕ
border_byte v y x = cond (colon_at v y x) colon (cond (any (eqb y) v.rules) equals dash)

-- the cell whose first inner column is x, on its inner line y
unfoldable pub starts_inside : Canvas → ℕ → ℕ → Option Box
starts_inside v y x =
    find (λ (b : Box). eqb x (b.frame.left + 1) && is_inside b.frame.top b.frame.bottom y) v.boxes

-- a cell's whole inner line: a space, the text, and spaces up to the right border. Marks stand in the text, each after what it joins
unfoldable pub inner_line : ℕ → Box → ℕ → List ℕ
inner_line origin b y =
    let text = get_or b.lines (y - b.frame.top - 1) no_text in
    space ∷ text
    ++ replicate (b.frame.right - b.frame.left - 2 - columns_from (origin + b.frame.left + 2) (char_indices text)) space

abbrev pub inner_of : ℕ → ℕ → Option Box → List ℕ
inner_of origin y none = []
inner_of origin y (some b) = inner_line origin b y

-- what column x of line y puts down; the columns of an inner line after its first put nothing
unfoldable pub put_down : ℕ → Canvas → ℕ → ℕ → List ℕ
put_down origin v y x =
    let inner = inner_of origin y (starts_inside v y x) in
    cond (corner_at v y x) (plus ∷ [])
    (cond (horizontal_at v y x) (border_byte v y x ∷ []) (cond (vertical_at v y x) (pipe ∷ []) inner))

unfoldable pub drawn_line : ℕ → Canvas → ℕ → Line
drawn_line origin v y = record { text = flat_map (put_down origin v y) (up_to (canvas_width v)); column = origin }

unfoldable pub canvas_lines : ℕ → Canvas → List Line
canvas_lines origin v = map (drawn_line origin v) (up_to (canvas_height v))

-- the plain drawing of a table at an origin
unfoldable pub drawn : ℕ → Table → List Line
drawn origin t = canvas_lines origin (canvas_of t)
