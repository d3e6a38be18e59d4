-- What redraw's answers mean, apart from the searches that find them. Document 01, the table of refusals: 10 "an aligned column has no
-- corner at its left on the alignment line .. lowest such column", 11 "a cell would split .. first cell".
use Rattle.std.specs.Prelude.{◌≡◌, true, false, List, [], ℕ, ◌<◌, length, get_or}
use Rattle.grid.specs.Answer.{Answer, accept, refuse}
use Rattle.grid.specs.Values.{Line, Rect, Table}
use Rattle.grid.specs.Slots.{Grid, vertical, glyph_at}
use Rattle.grid.specs.Rectangle.{plus_at}
use Rattle.grid.specs.declared.TableAlignment.TheVariants.{None}
use Rattle.drawing.specs.Plain.{Canvas, canvas_of, drawn, column_alignment, has_corner}
use Rattle.drawing.specs.Redraw.{drawn_too_large}

-- column k is aligned and has no corner at its left on the alignment line
pub record Cornerless (v : Canvas) (k : ℕ) : Type 0 where
  pub column : k < length v.columns
  pub aligned : column_alignment v k ≡ None → ⊥
  pub no_corner : has_corner v k ≡ false

-- "lowest such column"
pub record LowestCornerless (v : Canvas) (k : ℕ) : Type 0 where
  pub here : Cornerless v k
  pub before : (j : ℕ) → j < k → Cornerless v j → ⊥

-- "At some column strictly inside a cell, its top and bottom borders both have `+`, and every line between has `|` or `+` there."
pub record Split (g : Grid) (r : Rect) : Type 0 where
  pub column : ℕ
  pub after : r.left < column
  pub before : column < r.right
  pub top : plus_at g r.top column ≡ true
  pub bottom : plus_at g r.bottom column ≡ true
  pub between : (y : ℕ) → r.top < y → y < r.bottom → vertical (glyph_at g y column) ≡ true

-- the borders of box k, which is drawn of cell k
abbrev pub frame_at : Canvas → ℕ → Rect
frame_at v k = (get_or v.boxes k (record { frame = record { top = 0; left = 0; bottom = 0; right = 0 }; lines = [] })).frame

-- "first cell"
pub record FirstSplit (v : Canvas) (g : Grid) (k : ℕ) : Type 0 where
  pub box : k < length v.boxes
  pub here : Split g (frame_at v k)
  pub before : (j : ℕ) → j < k → Split g (frame_at v j) → ⊥

-- the answers that redraw can give of a table that it draws: the plain drawing, or a refusal after it
pub data LateAnswer (origin : ℕ) (t : Table) : Answer (List Line) → Type 0 where
  accepts : LateAnswer origin t (accept (drawn origin t))
  misplaced : (k : ℕ) → LateAnswer origin t (refuse 10 k)
  too_large : drawn_too_large (canvas_of t) (drawn origin t) ≡ true → LateAnswer origin t (refuse 2 0)
  splitting : (k : ℕ) → LateAnswer origin t (refuse 11 k)
