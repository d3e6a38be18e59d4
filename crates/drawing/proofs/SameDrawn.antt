-- What a drawing looks at: of declared widths nothing (`bare-drawn`). So tables that are the same ask the same widths (`same-needs`), and
-- with the same drawn widths they have the same drawing (`same-drawn`).
use Prim.Native.Nat.{ℕ, zero, suc, ◌+◌}
use mathlib.Core.Path.{◌≡◌, refl, sym, ap, ◌∙◌}
use mathlib.Core.Bool.{Bool, ◌&&◌, ◌||◌, cond}
use mathlib.Core.List.{List, [], ◌∷◌, map, map-map}
use lib.Dec.{eqb}
use lib.ListN.{length, get_or, length-map}
use Rattle.seq.specs.Lists.{up_to, any}
use Rattle.seq.proofs.Searches.{any-agree}
use Rattle.seq.proofs.FlatMaps.{map_same, flat_map-same}
use Rattle.text.specs.Characters.{plus, colon}
use Rattle.grid.specs.Values.{GridTableColumn, TableCell, Table}
use Rattle.grid.specs.Slots.{dash, equals, pipe}
use Rattle.grid.specs.Same.{normal_cell, normal, Same}
use Rattle.grid.specs.declared.TableAlignment.{TableAlignment}
use Rattle.grid.specs.declared.TableAlignment.TheVariants.{None}
use Rattle.grid.proofs.DrawnLineLaws.{drawn-again}
use Rattle.drawing.specs.Sizes.{widest, width_need, height_need, fit, widths, heights, offsets}
use Rattle.drawing.specs.Plain.{Box, Canvas, box_of, rule_lines, canvas_at, canvas_of, canvas_width, canvas_height, corner_at, horizontal_at, vertical_at, alignment_row, next_corner, has_left_colon, has_right_colon, has_corner, left_colon, right_colon, draws_colon, colon_at, border_byte, starts_inside, inner_of, put_down, drawn_line, canvas_lines, drawn}

-- ---- what the drawing looks at
abbrev pub bare_column : GridTableColumn → GridTableColumn
bare_column c = record { alignment = c.alignment; width = 0 }

-- a canvas without declared widths
abbrev bare_canvas : Canvas → Canvas
bare_canvas v = record { xs = v.xs; ys = v.ys; boxes = v.boxes; rules = v.rules; columns = map bare_column v.columns }

bare-alignment : (cs : List GridTableColumn) (k : ℕ) → (get_or (map bare_column cs) k (record { alignment = None; width = 0 })).alignment
    ≡ (get_or cs k (record { alignment = None; width = 0 })).alignment
bare-alignment [] k = refl
bare-alignment (c ∷ cs) zero = refl
bare-alignment (c ∷ cs) (suc k) = bare-alignment cs k

module _ (v : Canvas) where
  bare-draws : (x k : ℕ) → draws_colon (bare_canvas v) x k ≡ draws_colon v x k
  unfolding draws_colon corner_at next_corner
  bare-draws x k =
      ap (λ (a : TableAlignment). has_corner v k && (has_left_colon a && eqb x (left_colon v k) || has_right_colon a && eqb x (right_colon v k))) (bare-alignment v.columns k)

  bare-colon : (y x : ℕ) → colon_at (bare_canvas v) y x ≡ colon_at v y x
  unfolding colon_at
  bare-colon y x =
      ap (λ (b : Bool). eqb y (alignment_row v) && b)
      (any-agree (draws_colon (bare_canvas v) x) (draws_colon v x) (up_to (length (map bare_column v.columns))) (λ k m. bare-draws x k)
      ∙ ap (λ (n : ℕ). any (draws_colon v x) (up_to n)) (length-map v.columns bare_column))

  bare-byte : (y x : ℕ) → border_byte (bare_canvas v) y x ≡ border_byte v y x
  unfolding border_byte
  bare-byte y x = ap (λ (b : Bool). cond b colon (cond (any (eqb y) v.rules) equals dash)) (bare-colon y x)

  bare-put : (o y x : ℕ) → put_down o (bare_canvas v) y x ≡ put_down o v y x
  unfolding put_down corner_at horizontal_at vertical_at starts_inside
  bare-put o y x =
      ap
      (λ (b : ℕ). cond (corner_at v y x) (plus ∷ []) (cond (horizontal_at v y x) (b ∷ []) (cond (vertical_at v y x) (pipe ∷ []) (inner_of o y (starts_inside v y x)))))
      (bare-byte y x)

  bare-line : (o y : ℕ) → drawn_line o (bare_canvas v) y ≡ drawn_line o v y
  unfolding drawn_line
  bare-line o y =
      ap (λ (l : List ℕ). record { text = l; column = o })
      (flat_map-same (put_down o (bare_canvas v) y) (put_down o v y) (up_to (canvas_width v)) (λ x m. bare-put o y x))

  -- What is drawn does not look at the declared widths.
  bare-drawn : (o : ℕ) → canvas_lines o (bare_canvas v) ≡ canvas_lines o v
  unfolding canvas_lines
  bare-drawn o = map_same (drawn_line o (bare_canvas v)) (drawn_line o v) (up_to (canvas_height v)) (λ y m. bare-line o y)

-- ---- needs and boxes look at a cell's drawn lines
width-need : (c : TableCell) → width_need (normal_cell c) ≡ width_need c
unfolding normal_cell
width-need c = ap (λ (l : List (List ℕ)). record { from = c.column; to = c.column + c.colspan; size = widest l + 1 }) (drawn-again c.lines)

height-need : (c : TableCell) → height_need (normal_cell c) ≡ height_need c
unfolding normal_cell
height-need c = ap (λ (l : List (List ℕ)). record { from = c.row; to = c.row + c.rowspan; size = length l }) (drawn-again c.lines)

normal-box : (xs ys : List ℕ) (c : TableCell) → box_of xs ys (normal_cell c) ≡ box_of xs ys c
unfolding box_of normal_cell
normal-box xs ys c = ap (λ (l : List (List ℕ)). record { frame = (box_of xs ys c).frame; lines = l }) (drawn-again c.lines)

all-normal : {B : Type 0} (f : TableCell → B) → ((c : TableCell) → f (normal_cell c) ≡ f c) → (cs : List TableCell) → map f (map normal_cell cs) ≡ map f cs
all-normal f h cs = map-map f normal_cell cs ∙ map_same (λ c. f (normal_cell c)) f cs (λ c m. h c)

-- Tables that are the same ask the same widths.
pub same-needs : (t u : Table) → Same t u → map width_need t.cells ≡ map width_need u.cells
unfolding normal
same-needs t u s =
    sym (all-normal width_need width-need t.cells) ∙ ap (λ (x : Table). map width_need x.cells) s ∙ all-normal width_need width-need u.cells

module _ (t : Table) where
  normal-heights : heights (normal t) ≡ heights t
  unfolding heights normal
  normal-heights = ap (fit (map (λ s. 1) t.sections)) (all-normal height_need height-need t.cells)

  normal-canvas : (xs ys : List ℕ) → canvas_at xs ys (normal t) ≡ bare_canvas (canvas_at xs ys t)
  unfolding canvas_at normal rule_lines
  normal-canvas xs ys =
      ap (λ (b : List Box). record { xs = xs; ys = ys; boxes = b; rules = rule_lines t ys; columns = map bare_column t.columns }) (all-normal (box_of xs ys) (normal-box xs ys) t.cells)

  -- a table's drawing, from what sameness looks at and its drawn widths
  drawn-normal : (o : ℕ) → canvas_lines o (canvas_at (offsets (widths t)) (offsets (heights (normal t))) (normal t)) ≡ drawn o t
  unfolding drawn canvas_of
  drawn-normal o =
      ap (λ (hs : List ℕ). canvas_lines o (canvas_at (offsets (widths t)) (offsets hs) (normal t))) normal-heights
      ∙ ap (canvas_lines o) (normal-canvas (offsets (widths t)) (offsets (heights t))) ∙ bare-drawn (canvas_at (offsets (widths t)) (offsets (heights t)) t) o

-- Tables that are the same, with the same drawn widths, have the same drawing.
pub same-drawn : (o : ℕ) (t u : Table) → Same t u → widths t ≡ widths u → drawn o t ≡ drawn o u
same-drawn o t u s w =
    sym (drawn-normal t o) ∙ ap (λ (ws : List ℕ). canvas_lines o (canvas_at (offsets ws) (offsets (heights (normal t))) (normal t))) w
    ∙ ap (λ (x : Table). canvas_lines o (canvas_at (offsets (widths u)) (offsets (heights x)) x)) s ∙ drawn-normal u o
