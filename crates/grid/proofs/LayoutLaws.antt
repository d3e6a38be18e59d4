-- Column and row lines of a cover: they are its edges, and each but the last is where a cell starts.
use Prim.Native.Nat.{ℕ, zero, suc, ◌+◌, ◌-◌, ◌≤◌, ◌<◌}
use mathlib.Core.Path.{◌≡◌, refl, sym, ap, ◌∙◌}
use mathlib.Core.Bool.{Bool, true, ◌||◌}
use mathlib.Core.Logic.{◌⊎◌, ◌↔◌, inl, inr, ⊎_elim}
use mathlib.Core.List.{List, [], ◌∷◌, map, Memᴰ}
use native.Mathlib.Nat.{eq-or-lt_of_le}
use native.Mathlib.Omega.{arith}
use native.Mathlib.Numerals.{add-one}
use lib.Dec.{eqb, ltb}
use lib.ListN.{length, get_or, length-map}
use borrow.Author.Tests.{eqb-true, eq-eqb}
use Rattle.seq.specs.Lists.{up_to, any, select, neighbours}
use Rattle.seq.proofs.Tests.{and_left, and_right, and_intro, or_cases, or_left, or_right, lex-above, lex-beside, lex-cases}
use Rattle.seq.proofs.Ranges.{mem-range, range-mem, length-range}
use Rattle.seq.proofs.Searches.{any-mem, mem-any, select-mem, mem-select, count-few, count-pick, count-one, neighbours-map, neighbours-imply}
use Rattle.seq.proofs.Positions.{get_or-mem}
use Rattle.seq.proofs.Rising.{rising-strict, range-rises, select-sorted, rising-get_or, position-lt, position_at}
use Rattle.grid.specs.Values.{Line, Rect}
use Rattle.grid.specs.Slots.{Grid}
use Rattle.grid.specs.Layout.{column_lines, row_lines, index_of, Between, between, columns_read, rows_read, cell_read}
use Rattle.grid.specs.Cover.{holds, Cover, precedes, cell_precedes}
use Rattle.grid.proofs.SkylineLaws.{Inside, holds-inside, inside-holds}

pub length-between : (l : List ℕ) → length (between l) ≡ length l - 1
unfolding between
length-between [] = refl
length-between (a ∷ []) = refl
length-between (a ∷ b ∷ l) = omega (arith, length-between (b ∷ l))

pub between-at : (l : List ℕ) (k : ℕ) (d : Between) → k + 1 < length l → get_or (between l) k d ≡ record { from = get_or l k 0; to = get_or l (k + 1) 0 }
unfolding between
between-at l k d h = rw (add-one k) (go l k (omega arith)) where
  go : (l : List ℕ) (k : ℕ) → suc k < length l → get_or (between l) k d ≡ record { from = get_or l k 0; to = get_or l (suc k) 0 }
  go [] k h = absurd (omega arith)
  go (a ∷ []) k h = absurd (omega arith)
  go (a ∷ b ∷ l) zero h = refl
  go (a ∷ b ∷ l) (suc k) h = go (b ∷ l) k (omega arith)

pub get_d_between : (l : List ℕ) (i : ℕ) (d : Between) → suc i < length l → (get_or (between l) i d).from ≡ get_or l i 0
unfolding between
get_d_between [] i d h = absurd (omega arith)
get_d_between (a ∷ []) i d h = absurd (omega arith)
get_d_between (a ∷ b ∷ l) zero d h = refl
get_d_between (a ∷ b ∷ l) (suc i) d h = get_d_between (b ∷ l) i d (omega arith)

pub between-mem : (l : List ℕ) {b : Between} → Memᴰ b (between l) → Memᴰ b.to l
unfolding between
between-mem [] m = elim m [ ]
between-mem (a ∷ []) m = elim m [ ]
between-mem (a ∷ b ∷ l) (Memᴰ.head e) = Memᴰ.tail (Memᴰ.head (ap (λ (b : Between). b.to) e))
between-mem (a ∷ b ∷ l) (Memᴰ.tail m) = Memᴰ.tail (between-mem (b ∷ l) m)

pub between-rises : (l : List ℕ) → neighbours ltb l ≡ true → neighbours (λ (a b : Between). ltb a.from b.from) (between l) ≡ true
unfolding between neighbours
between-rises [] e = refl
between-rises (a ∷ []) e = refl
between-rises (a ∷ b ∷ []) e = refl
between-rises (a ∷ b ∷ c ∷ l) e =
    and_intro (and_left (ltb a b) (neighbours ltb (b ∷ c ∷ l)) e) (between-rises (b ∷ c ∷ l) (and_right (ltb a b) (neighbours ltb (b ∷ c ∷ l)) e))

-- an edge of a rectangle, of the two that the lines of one direction come from
abbrev is_edge : (Rect → ℕ) → (Rect → ℕ) → ℕ → Rect → Bool
is_edge low high x r = eqb x (low r) || eqb x (high r)

abbrev pub Edge : (Rect → ℕ) → (Rect → ℕ) → List Rect → ℕ → Type 0
Edge low high rs x = (r : Rect) × Memᴰ r rs × ((x ≡ low r) ⊎ (x ≡ high r))

-- ---- the lines of one direction

module _ (low high : Rect → ℕ) (rs : List Rect) (size : ℕ) where
  abbrev lines_of : List ℕ
  lines_of = select (λ x. any (is_edge low high x) rs) (up_to size)

  lines-rise : neighbours ltb lines_of ≡ true
  lines-rise = select-sorted ltb rising-strict (λ x. any (is_edge low high x) rs) (up_to size) (range-rises 0 size)

  line-edge : (x : ℕ) → Memᴰ x lines_of → Edge low high rs x × (x < size)
  line-edge x m =
      let chosen = select-mem (λ x. any (is_edge low high x) rs) (up_to size) m in
      let found = any-mem (is_edge low high x) rs chosen.1 in
      let r = found.0 in (
        (
          r,
          found.1,
          ⊎_elim (λ (e : eqb x (low r) ≡ true). inl (eqb-true x (low r) e)) (λ (e : eqb x (high r) ≡ true). inr (eqb-true x (high r) e))
              (or_cases (eqb x (low r)) (eqb x (high r)) found.2),
        ),
        omega (arith, range-mem 0 size x chosen.0),
      )

  edge-line : (x : ℕ) → Edge low high rs x → x < size → Memᴰ x lines_of
  edge-line x edge h =
      let r = edge.0 in
      mem-select (λ x. any (is_edge low high x) rs) (mem-range 0 size x (omega arith) (omega arith))
      (mem-any (is_edge low high x) edge.1
      (⊎_elim (λ (e : x ≡ low r). or_left (eqb x (high r)) (eq-eqb x (low r) e)) (λ (e : x ≡ high r). or_right (eqb x (low r)) (eq-eqb x (high r) e)) edge.2))

-- ---- column and row lines

module _ (g : Grid) (rs : List Rect) where
  -- Column lines and row lines rise.
  pub column_lines-rise : neighbours ltb (column_lines g rs) ≡ true
  unfolding column_lines
  column_lines-rise = lines-rise (λ r. r.left) (λ r. r.right) rs g.width

  pub row_lines-rise : neighbours ltb (row_lines g rs) ≡ true
  unfolding row_lines
  row_lines-rise = lines-rise (λ r. r.top) (λ r. r.bottom) rs g.height

  pub column_line-inside : {x : ℕ} → Memᴰ x (column_lines g rs) → x < g.width
  unfolding column_lines
  column_line-inside {x} m = (line-edge (λ r. r.left) (λ r. r.right) rs g.width x m).1

  row_line-inside : {y : ℕ} → Memᴰ y (row_lines g rs) → y < g.height
  unfolding row_lines
  row_line-inside {y} m = (line-edge (λ r. r.top) (λ r. r.bottom) rs g.height y m).1

  -- There are no more of them than columns and lines.
  pub column_lines-few : length (column_lines g rs) ≤ g.width
  unfolding column_lines
  column_lines-few = omega (arith, count-few (λ x. any (is_edge (λ r. r.left) (λ r. r.right) x) rs) (up_to g.width), length-range 0 g.width)

  pub row_lines-few : length (row_lines g rs) ≤ g.height
  unfolding row_lines
  row_lines-few = omega (arith, count-few (λ y. any (is_edge (λ r. r.top) (λ r. r.bottom) y) rs) (up_to g.height), length-range 0 g.height)

module _ {g : Grid} {rs : List Rect} (cover : Cover g rs) where
  -- Column lines are exactly the left and right edges of the rectangles.
  pub column_lines-edges : (x : ℕ) → Memᴰ x (column_lines g rs) ↔ Edge (λ r. r.left) (λ r. r.right) rs x
  unfolding column_lines
  column_lines-edges x = (λ m. (line-edge (λ r. r.left) (λ r. r.right) rs g.width x m).0, back) where
    back : Edge (λ r. r.left) (λ r. r.right) rs x → Memᴰ x (column_lines g rs)
    back edge =
        let r = edge.0 in
        let h = (cover.first r edge.1).bordered in
        edge-line (λ r. r.left) (λ r. r.right) rs g.width x edge
        (⊎_elim (λ (e : x ≡ r.left). omega (arith, h.left_before_right, h.right_inside)) (λ (e : x ≡ r.right). omega (arith, h.right_inside)) edge.2)

  -- Row lines are exactly the top and bottom edges of the rectangles.
  pub row_lines-edges : (y : ℕ) → Memᴰ y (row_lines g rs) ↔ Edge (λ r. r.top) (λ r. r.bottom) rs y
  unfolding row_lines
  row_lines-edges y = (λ m. (line-edge (λ r. r.top) (λ r. r.bottom) rs g.height y m).0, back) where
    back : Edge (λ r. r.top) (λ r. r.bottom) rs y → Memᴰ y (row_lines g rs)
    back edge =
        let r = edge.0 in
        let h = (cover.first r edge.1).bordered in
        edge-line (λ r. r.top) (λ r. r.bottom) rs g.height y edge
        (⊎_elim (λ (e : y ≡ r.top). omega (arith, h.top_above_bottom, h.bottom_inside)) (λ (e : y ≡ r.bottom). omega (arith, h.bottom_inside)) edge.2)

  -- the rectangle that holds a square
  pub cover-holder : (y x : ℕ) → suc y < g.height → suc x < g.width → (r : Rect) × Memᴰ r rs × Inside y x r
  cover-holder y x hy hx =
      let held = count-pick (holds y x) rs (omega (arith, cover.once y x hy hx)) in
      (held.0, held.1, inside-holds y x held.0 held.2)

  -- two rectangles that hold one square are the same
  pub same-holder : {q r : Rect} → Memᴰ q rs → Memᴰ r rs → {y x : ℕ} → suc y < g.height → suc x < g.width → Inside y x q → Inside y x r → q ≡ r
  same-holder m n {y} {x} hy hx i j =
      count-one (holds y x) (cover.once y x hy hx) m n (holds-inside i.below i.above i.after i.before) (holds-inside j.below j.above j.after j.before)

  -- the rectangle right of one starts at its right edge, and the one below it at its bottom edge
  touches-right : {q r : Rect} → Memᴰ q rs → Memᴰ r rs → Inside r.top r.right q → q.left ≡ r.right
  touches-right {q} {r} m n i = ⊎_elim (λ (e : q.left ≡ r.right). e) (λ (h : q.left < r.right). absurd (overlap h)) (eq-or-lt_of_le i.after) where
    overlap : q.left < r.right → ⊥
    overlap h =
        let b = (cover.first r n).bordered in
        let x = r.right - 1 in
        let left-of : Inside r.top x q = record { below = i.below; above = i.above; after = omega arith; before = omega (arith, i.before) } in
        let own : Inside r.top x r = record { below = omega arith; above = b.top_above_bottom; after = omega (arith, b.left_before_right); before = omega arith } in
        let same = same-holder m n (omega (arith, b.top_above_bottom, b.bottom_inside)) (omega (arith, b.right_inside)) left-of own in
        omega (arith, i.before, ap (λ (p : Rect). p.right) same)

  touches-below : {q r : Rect} → Memᴰ q rs → Memᴰ r rs → Inside r.bottom r.left q → q.top ≡ r.bottom
  touches-below {q} {r} m n i = ⊎_elim (λ (e : q.top ≡ r.bottom). e) (λ (h : q.top < r.bottom). absurd (overlap h)) (eq-or-lt_of_le i.below) where
    overlap : q.top < r.bottom → ⊥
    overlap h =
        let b = (cover.first r n).bordered in
        let y = r.bottom - 1 in
        let above-it : Inside y r.left q = record { below = omega arith; above = omega (arith, i.above); after = i.after; before = i.before } in
        let own : Inside y r.left r = record { below = omega (arith, b.top_above_bottom); above = omega arith; after = omega arith; before = b.left_before_right } in
        let same = same-holder m n (omega (arith, b.bottom_inside)) (omega (arith, b.left_before_right, b.right_inside)) above-it own in
        omega (arith, i.above, ap (λ (p : Rect). p.bottom) same)

  -- Every column line below the last column is the left edge of some rectangle.
  pub column_line-starts : {x : ℕ} → Memᴰ x (column_lines g rs) → x < g.width - 1 → (r : Rect) × Memᴰ r rs × (r.left ≡ x)
  column_line-starts {x} m h = let edge = (column_lines-edges x).0 m in ⊎_elim (λ (e : x ≡ edge.0.left). (edge.0, edge.1, sym e)) (beyond edge.1) edge.2 where
    beyond : {r : Rect} → Memᴰ r rs → x ≡ r.right → (q : Rect) × Memᴰ q rs × (q.left ≡ x)
    beyond {r} n e =
        let b = (cover.first r n).bordered in
        let held = cover-holder r.top r.right (omega (arith, b.top_above_bottom, b.bottom_inside)) (omega arith) in
        (held.0, held.1, touches-right held.1 n held.2 ∙ sym e)

  -- Every row line above the last line is the top edge of some rectangle.
  pub row_line-starts : {y : ℕ} → Memᴰ y (row_lines g rs) → y < g.height - 1 → (r : Rect) × Memᴰ r rs × (r.top ≡ y)
  row_line-starts {y} m h = let edge = (row_lines-edges y).0 m in ⊎_elim (λ (e : y ≡ edge.0.top). (edge.0, edge.1, sym e)) (beneath edge.1) edge.2 where
    beneath : {r : Rect} → Memᴰ r rs → y ≡ r.bottom → (q : Rect) × Memᴰ q rs × (q.top ≡ y)
    beneath {r} n e =
        let b = (cover.first r n).bordered in
        let held = cover-holder r.bottom r.left (omega arith) (omega (arith, b.left_before_right, b.right_inside)) in
        (held.0, held.1, touches-below held.1 n held.2 ∙ sym e)

  -- ---- rows, columns and cells of the layout

  -- the edges of a rectangle of the cover are lines
  pub left-line : {r : Rect} → Memᴰ r rs → Memᴰ r.left (column_lines g rs)
  left-line {r} m = (column_lines-edges r.left).1 (r, m, inl refl)

  pub right-line : {r : Rect} → Memᴰ r rs → Memᴰ r.right (column_lines g rs)
  right-line {r} m = (column_lines-edges r.right).1 (r, m, inr refl)

  pub top-line : {r : Rect} → Memᴰ r rs → Memᴰ r.top (row_lines g rs)
  top-line {r} m = (row_lines-edges r.top).1 (r, m, inl refl)

  pub bottom-line : {r : Rect} → Memᴰ r rs → Memᴰ r.bottom (row_lines g rs)
  bottom-line {r} m = (row_lines-edges r.bottom).1 (r, m, inr refl)

  -- where column k and row i begin
  pub column-inside : (k : ℕ) → suc k < length (column_lines g rs) → get_or (column_lines g rs) k 0 < g.width - 1
  column-inside k h =
      omega (
        arith,
        rising-get_or (column_lines g rs) (column_lines-rise g rs) k (suc k) (omega arith) h,
        column_line-inside g rs (get_or-mem (column_lines g rs) (suc k) 0 h),
      )

  pub row_inside : (i : ℕ) → suc i < length (row_lines g rs) → get_or (row_lines g rs) i 0 < g.height - 1
  row_inside i h =
      omega (
        arith,
        rising-get_or (row_lines g rs) (row_lines-rise g rs) i (suc i) (omega arith) h,
        row_line-inside g rs (get_or-mem (row_lines g rs) (suc i) 0 h),
      )

  -- Each column of the layout has a cell that starts there.
  pub column-starts : (lines : List Line) (k : ℕ) → k < length (columns_read lines g rs) → (r : Rect) × Memᴰ r rs × ((cell_read g rs r).column ≡ k)
  unfolding columns_read cell_read index_of
  column-starts lines k h =
      let inside : suc k < length (column_lines g rs) = omega (arith, simp (length-map, length-between) at h) in
      let found = column_line-starts (get_or-mem (column_lines g rs) k 0 (omega arith)) (column-inside k inside) in
      (found.0, found.1, rw found.2 (position_at (column_lines g rs) (column_lines-rise g rs) k (omega arith)))

  -- Each row of the layout has a cell that starts there.
  pub row-starts : (i : ℕ) → i < length (rows_read g rs) → (r : Rect) × Memᴰ r rs × ((cell_read g rs r).row ≡ i)
  unfolding rows_read cell_read index_of
  row-starts i h =
      let inside : suc i < length (row_lines g rs) = omega (arith, simp (length-map, length-between) at h) in
      let found = row_line-starts (get_or-mem (row_lines g rs) i 0 (omega arith)) (row_inside i inside) in
      (found.0, found.1, rw found.2 (position_at (row_lines g rs) (row_lines-rise g rs) i (omega arith)))

  -- Rectangles in order of top, then left, give cells in order of row, then column.
  pub cells-ordered : neighbours precedes rs ≡ true → neighbours cell_precedes (map (cell_read g rs) rs) ≡ true
  unfolding cell_read index_of
  cells-ordered e =
      neighbours-map (cell_read g rs) cell_precedes rs
      ∙ neighbours-imply precedes (λ q r. cell_precedes (cell_read g rs q) (cell_read g rs r)) rs ordered e where
        rise : neighbours ltb (row_lines g rs) ≡ true
        rise = row_lines-rise g rs

        row : Rect → ℕ
        row r = index_of (row_lines g rs) r.top

        column : Rect → ℕ
        column r = index_of (column_lines g rs) r.left

        ordered : (q r : Rect) → Memᴰ q rs → Memᴰ r rs → precedes q r ≡ true → cell_precedes (cell_read g rs q) (cell_read g rs r) ≡ true
        ordered q r m n f =
            ⊎_elim (λ (h : q.top < r.top). lex-above (row q) (row r) (column q) (column r) (position-lt (row_lines g rs) rise (top-line m) (top-line n) h))
            (λ (h : (q.top ≡ r.top) × (q.left < r.left)).
            lex-beside (row q) (row r) (column q) (column r) (ap (index_of (row_lines g rs)) h.0)
            (position-lt (column_lines g rs) (column_lines-rise g rs) (left-line m) (left-line n) h.1))
            (lex-cases q.top r.top q.left r.left f)
