-- Demand 2, apart from any search: what a bordered rectangle, the first one at a corner, and a cover of the grid are.
use Rattle.std.specs.Prelude.{◌≡◌, Bool, true, ◌&&◌, ◌||◌, ◌⊎◌, ℕ, suc, ◌-◌, ◌≤◌, ◌<◌, eqb, leb, ltb, length, get_or, replicate}
use mathlib.Core.List.{List, [], ◌∷◌, Memᴰ, Permᴰ}
use Rattle.seq.specs.Lists.{count, neighbours}
use Rattle.grid.specs.Values.{Rect, Cell}
use Rattle.grid.specs.Slots.{Grid, Plus, glyph_at, horizontal, vertical}
use Rattle.grid.specs.Trace.{lowest, leftmost, raise}

pub record Bordered (g : Grid) (r : Rect) : Type 0 where
  pub top_above_bottom : r.top < r.bottom
  pub bottom_inside : r.bottom < g.height
  pub left_before_right : r.left < r.right
  pub right_inside : r.right < g.width
  pub top_left : glyph_at g r.top r.left ≡ Plus
  pub top_right : glyph_at g r.top r.right ≡ Plus
  pub bottom_left : glyph_at g r.bottom r.left ≡ Plus
  pub bottom_right : glyph_at g r.bottom r.right ≡ Plus
  pub top_side : (x : ℕ) → r.left ≤ x → x ≤ r.right → horizontal (glyph_at g r.top x) ≡ true
  pub bottom_side : (x : ℕ) → r.left ≤ x → x ≤ r.right → horizontal (glyph_at g r.bottom x) ≡ true
  pub left_side : (y : ℕ) → r.top ≤ y → y ≤ r.bottom → vertical (glyph_at g y r.left) ≡ true
  pub right_side : (y : ℕ) → r.top ≤ y → y ≤ r.bottom → vertical (glyph_at g y r.right) ≡ true

-- of all bordered rectangles at its corner it has the smallest bottom, and of those with that bottom the smallest right
pub record First (g : Grid) (r : Rect) : Type 0 where
  pub bordered : Bordered g r
  pub least : (q : Rect) → Bordered g q → q.top ≡ r.top → q.left ≡ r.left
      → (r.bottom < q.bottom) ⊎ ((r.bottom ≡ q.bottom) × (r.right ≤ q.right))

-- the other order: the smallest right, and of those with that right the smallest bottom
pub record FirstByRight (g : Grid) (r : Rect) : Type 0 where
  pub bordered : Bordered g r
  pub least : (q : Rect) → Bordered g q → q.top ≡ r.top → q.left ≡ r.left
      → (r.right < q.right) ⊎ ((r.right ≡ q.right) × (r.bottom ≤ q.bottom))

-- does the rectangle hold the unit square whose upper left corner is line y, column x
abbrev pub holds : ℕ → ℕ → Rect → Bool
holds y x r = leb r.top y && ltb y r.bottom && leb r.left x && ltb x r.right

-- first bordered rectangles that hold each unit square of the grid once. Without two lines and two columns there is no square to cover
pub record Cover (g : Grid) (rs : List Rect) : Type 0 where
  pub tall : 1 < g.height
  pub wide : 1 < g.width
  pub first : (r : Rect) → Memᴰ r rs → First g r
  pub once : (y x : ℕ) → suc y < g.height → suc x < g.width → count (holds y x) rs ≡ 1

-- a single line, or one column: no square to cover
abbrev pub Small : Grid → Type 0
Small g = (g.height ≤ 1) ⊎ (g.width ≤ 1)

-- in order of top, then left
abbrev pub precedes : Rect → Rect → Bool
precedes a b = ltb a.top b.top || (eqb a.top b.top && ltb a.left b.left)

-- the rectangles are the cover of the grid: at most 1,024, in order of top, then left, and every other cover is these in another order
pub record OnlyCover (g : Grid) (rs : List Rect) : Type 0 where
  pub covers : Cover g rs
  pub few : length rs ≤ 1024
  pub ordered : neighbours precedes rs ≡ true
  pub only : (cs : List Rect) → Cover g cs → Permᴰ rs cs

-- cells of a layout in order of row, then column
abbrev pub cell_precedes : Cell → Cell → Bool
cell_precedes a b = ltb a.row b.row || (eqb a.row b.row && ltb a.column b.column)

-- the skyline before any rectangle is placed
abbrev pub ground : Grid → List ℕ
ground g = replicate (g.width - 1) 0

-- the skyline after the rectangles were placed on it one after another
unfoldable pub risen : List ℕ → List Rect → List ℕ
risen sky [] = sky
risen sky (r ∷ rs) = risen (raise r sky) rs

-- the rectangle that tracing places next: the first bordered one at the leftmost lowest column, and it stands level there
pub record Next (g : Grid) (sky : List ℕ) (r : Rect) : Type 0 where
  pub first : First g r
  pub at_lowest : r.top ≡ lowest sky
  pub at_leftmost : r.left ≡ leftmost sky
  pub level : (x : ℕ) → r.left ≤ x → x < r.right → get_or sky x 0 ≡ r.top

-- each of the rectangles is the one to place next on the skyline that those before it leave
abbrev pub Placed : Grid → List ℕ → List Rect → Type 0
Placed g sky [] = Unit {0}
Placed g sky (r ∷ rs) = Next g sky r × Placed g (raise r sky) rs

-- tracing with room for so many rectangles comes to a corner where there is none to place
pub record Stuck (g : Grid) (room : ℕ) (sky : List ℕ) : Type 0 where
  pub rectangles : List Rect
  pub each : Placed g sky rectangles
  pub few_enough : length rectangles ≤ room
  pub not_down : lowest (risen sky rectangles) < g.height - 1
  pub none_next : (r : Rect) → Next g (risen sky rectangles) r → ⊥

-- tracing with room for so many rectangles places them all, and finds one more to place
pub record Overfull (g : Grid) (room : ℕ) (sky : List ℕ) : Type 0 where
  pub rectangles : List Rect
  pub each : Placed g sky rectangles
  pub one_more : length rectangles ≡ suc room
