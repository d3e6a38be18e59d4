-- What each step of drawing puts on the canvas, slot by slot, over what stands there.
use Rattle.std.specs.Prelude.{ℕ, zero, suc, ◌+◌, ◌*◌, ◌-◌, ◌<◌, ◌≡◌, Bool, false, ◌&&◌, ◌||◌, cond, List, Option, Some, None, get_or, eqb}
use Rattle.seq.specs.Lists.{range, up_to, any, find, or_default}
use Rattle.text.specs.Characters.{plus, colon}
use Rattle.grid.specs.Values.{Rect}
use Rattle.grid.specs.Slots.{dash, equals, pipe}
use Rattle.grid.specs.Flat.{code_alignment}
use Rattle.drawing.specs.Plain.{is_edge, is_inside, has_left_colon, has_right_colon}
use Rattle.representation.specs.Arrays.{code_at, rect_in}
use Rattle.canvas.specs.declared.Rules.{Rules}

-- each slot of the canvas holds what `put` makes of the slot and what it held
pub record Drawn (put : ℕ → ℕ → ℕ → ℕ) (before after : List ℕ) : Type 0 where
  pub slot : (y x : ℕ) → y < 128 → x < 128 → code_at after y x ≡ put y x (code_at before y x)

-- ---- one cell
-- is line y a rule of `=`
abbrev pub is_line : Option ℕ → ℕ → Bool
is_line None y = false
is_line (Some line) y = eqb y line

abbrev pub is_ruled : Rules → ℕ → Bool
is_ruled rules y = is_line rules.head y || is_line rules.foot y || is_line rules.last y

-- the byte of line y's borders
abbrev pub rule_byte : Rules → ℕ → ℕ
rule_byte rules y = cond (is_ruled rules y) equals dash

-- the borders along the lines of a cell
unfoldable pub ended : Rules → Rect → ℕ → ℕ → ℕ → ℕ
ended rules r y x old = cond (is_edge r.top r.bottom y && is_inside r.left r.right x) (rule_byte rules y) old

-- the borders at its sides, and in its first inner column the cell's code
unfoldable pub sided : ℕ → Rect → ℕ → ℕ → ℕ → ℕ
sided code r y x old =
    cond (is_inside r.top r.bottom y) (cond (is_edge r.left r.right x) pipe (cond (eqb x (r.left + 1)) code old)) old

abbrev pub corner_of : Rect → ℕ → ℕ → Bool
corner_of r y x = is_edge r.top r.bottom y && is_edge r.left r.right x

unfoldable pub cornered : Rect → ℕ → ℕ → ℕ → ℕ
cornered r y x old = cond (corner_of r y x) plus old

-- ---- all cells
-- what n steps make of a slot, the later over the earlier
unfoldable pub painted : (ℕ → ℕ → ℕ) → ℕ → ℕ → ℕ
painted put zero old = old
painted put (suc k) old = put k (painted put k old)

unfoldable pub bordered : Rules → List ℕ → ℕ → ℕ → ℕ → ℕ → ℕ
bordered rules rects n y x old =
    painted (λ (k o : ℕ). ended rules (rect_in rects k) y x (sided (256 + k) (rect_in rects k) y x o)) n old

unfoldable pub all_cornered : List ℕ → ℕ → ℕ → ℕ → ℕ → ℕ
all_cornered rects n y x old = cond (any (λ k. corner_of (rect_in rects k) y x) (up_to n)) plus old

-- ---- colons
-- a colon at one slot, where it is asked for
unfoldable pub colon_if : Bool → ℕ → ℕ → ℕ → ℕ → ℕ → ℕ
colon_if on line column y x old = cond (on && (eqb y line && eqb x column)) colon old

-- has an alignment a colon at column x, of a segment from one corner to another
abbrev pub colon_of : ℕ → ℕ → ℕ → ℕ → Bool
colon_of code from to x = has_left_colon (code_alignment code) && eqb x (from + 1) || has_right_colon (code_alignment code) && eqb x (to - 1)

unfoldable pub coloned : ℕ → ℕ → ℕ → ℕ → ℕ → ℕ → ℕ → ℕ
coloned code from to row y x old = cond (eqb y row && colon_of code from to x) colon old

-- the first column line from k on that is marked, the last where none before it is
unfoldable pub next_mark : List ℕ → ℕ → ℕ → ℕ
next_mark marks columns k = or_default columns (find (λ j. eqb (get_or marks j 0) 1) (range k (columns - k)))

-- has column k a colon at column x
abbrev pub colon_in : (cols xs marks : List ℕ) → ℕ → ℕ → ℕ → Bool
colon_in cols xs marks columns x k =
    eqb (get_or marks k 0) 1 && colon_of (get_or cols (2 * k) 0) (get_or xs k 0) (get_or xs (next_mark marks columns (k + 1)) 0) x

unfoldable pub all_coloned : (cols xs marks : List ℕ) → ℕ → ℕ → ℕ → ℕ → ℕ → ℕ
all_coloned cols xs marks columns row y x old = cond (eqb y row && any (colon_in cols xs marks columns x) (up_to columns)) colon old
