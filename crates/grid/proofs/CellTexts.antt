-- The texts of all cells of a drawing that is read: how many lines, how many bytes, and that each is well formed.
use Prim.Native.Nat.{ℕ, suc, ◌+◌, ◌-◌, ◌*◌, ◌≤◌, ◌<◌}
use mathlib.Core.Path.{◌≡◌, refl, ap, ◌∙◌}
use mathlib.Core.Bool.{Bool, true, false, ◌&&◌, ◌||◌, cond}
use mathlib.Core.Logic.{⊎_elim}
use mathlib.Core.List.{List, [], ◌∷◌, map, Memᴰ}
use native.Mathlib.Omega.{arith}
use native.Mathlib.Nat.{mul-le-mul, mul-one}
use native.Mathlib.Numerals.{add-one}
use lib.Dec.{eqb}
use lib.ListN.{length, get_or, drop, length-map}
use lib.Seq.{get_or-drop}
use borrow.Author.Tests.{eqb-true}
use Rattle.seq.specs.Lists.{range, up_to, sum}
use Rattle.seq.proofs.Tests.{and_left, or_cases, le-or-lt}
use Rattle.seq.proofs.ListsLaws.{within-below, drop-step}
use Rattle.seq.proofs.Ranges.{range-mem, length-range}
use Rattle.seq.proofs.Positions.{get_or-mem, get_d_map}
use Rattle.seq.proofs.Sums.{sum-le, sum-each, sum-distances, sum_first}
use Rattle.text.specs.Characters.{space, tab, tab_columns}
use Rattle.text.specs.Utf8.{continues, well_from, well_formed}
use Rattle.text.specs.Trim.{trim_end}
use Rattle.text.proofs.PartLaws.{well-drop, well-take, well-rest, well-trimmed}
use Rattle.grid.specs.Values.{Line, Rect, Fragment, no_line}
use Rattle.grid.specs.Slots.{Grid, grid_of, byte_at}
use Rattle.grid.specs.Layout.{content_at, inner_lines, inner_count}
use Rattle.grid.specs.Cut.{part, after_first, cut}
use Rattle.grid.specs.Cover.{Cover}
use Rattle.grid.proofs.ReadLaws.{Passed, height-of, read-cover, read-limited, read-narrow}
use Rattle.grid.proofs.SeparatorLaws.{row-filled}
use Rattle.grid.proofs.SlotLaws.{line-well, rows-length}
use Rattle.grid.proofs.ByteLaws.{slot-in-line, border-byte, bytes-climb}
use Rattle.grid.proofs.SquareSums.{rect_weight, grid_weight, cover-weight}
use Rattle.grid.proofs.CutLaws.{cut-shorter}
use Rattle.grid.proofs.CellLaws.{cut_at}

-- ---- a text that is cut
first-well : (t : List ℕ) (line byte column : ℕ) → well_formed t ≡ true → well_formed (after_first t line byte column).text ≡ true
unfolding after_first
first-well [] line byte column w = w
first-well (b ∷ bs) line byte column w = go (eqb b space || (eqb b tab && eqb (tab_columns column) 1)) refl (eqb b tab) where
  go : (gone : Bool) → eqb b space || (eqb b tab && eqb (tab_columns column) 1) ≡ gone → (wide : Bool)
      → well_formed (cond {A = Fragment} gone (record { text = bs; line = line; byte = byte + 1; column = column + 1 })
      (cond wide (record { text = b ∷ bs; line = line; byte = byte; column = column + 1 })
      (record { text = b ∷ bs; line = line; byte = byte; column = column }))).text ≡ true
  go true e wide =
      well-rest b bs
      (⊎_elim (λ (h : eqb b space ≡ true). let same = eqb-true b space h in omega arith)
      (λ (h : eqb b tab && eqb (tab_columns column) 1 ≡ true). let same = eqb-true b tab (and_left (eqb b tab) (eqb (tab_columns column) 1) h) in omega arith)
      (or_cases (eqb b space) (eqb b tab && eqb (tab_columns column) 1) e)) w
  go false e true = w
  go false e false = w

low-ends : (b : ℕ) → b < 0x80 → continues b ≡ false
low-ends b h = within-below 0x80 0xbf b h

-- the part between two bytes below 80
part-well : (s : List ℕ) (a b : ℕ) → well_formed s ≡ true → a < length s → get_or s a 0 < 0x80 → get_or s b 0 < 0x80
    → well_formed (part (record { start = a + 1; end = b }) s) ≡ true
unfolding well_from
part-well s a b w inside low high =
    let from : well_formed (drop a s) ≡ true = well-drop s w a (low-ends (get_or s a 0) low) in
    let after : well_formed (drop (a + 1) s) ≡ true = well-rest (get_or s a 0) (drop (a + 1) s) low (rw (drop-step s a inside) at from) in
    ⊎_elim
    (λ (h : a + 1 ≤ b).
    let end : get_or (drop (a + 1) s) (b - (a + 1)) 0 ≡ get_or s b 0 = get_or-drop (a + 1) s (b - (a + 1)) 0 ∙ ap (λ (i : ℕ). get_or s i 0) (omega arith) in
    well-take (drop (a + 1) s) after (b - (a + 1)) (low-ends (get_or (drop (a + 1) s) (b - (a + 1)) 0) (omega arith)))
    (λ (h : b < a + 1). let none : b - (a + 1) ≡ 0 = omega arith in rw none) (le-or-lt (a + 1) b)

-- ---- in a drawing that is read
module _ (lines : List Line) (rs : List Rect) (checks : Passed lines rs) where
  abbrev g : Grid
  g = grid_of lines

  abbrev text_at : ℕ → List ℕ
  text_at y = (get_or lines y no_line).text

  cover : Cover g rs
  cover = read-cover checks

  row-full : (y : ℕ) → y < length lines → length (get_or g.rows y []) ≡ g.width
  row-full y h = row-filled g checks.filled y (omega (arith, rows-length lines))

  text-short : (y : ℕ) → y < length lines → length (text_at y) ≤ 512
  text-short y h = (read-limited checks).short_lines (get_or-mem lines y no_line h)

  -- ---- how many lines
  rect-lines : (r : Rect) → Memᴰ r rs → r.bottom - r.top - 1 ≤ rect_weight (λ y x. 1) r
  rect-lines r m =
      let b = (cover.first r m).bordered in
      let deep = range r.top (r.bottom - r.top) in
      let wide = range r.left (r.right - r.left) in
      let across : sum (map (λ (x : ℕ). 1) wide) ≡ (r.right - r.left) * 1 = sum-each 1 wide ∙ ap (λ (n : ℕ). n * 1) (length-range r.left (r.right - r.left)) in
      let each : sum (map (λ (y : ℕ). 1) deep) ≡ (r.bottom - r.top) * 1 = sum-each 1 deep ∙ ap (λ (n : ℕ). n * 1) (length-range r.top (r.bottom - r.top)) in
      omega (arith, sum-le (λ y. 1) (λ y. sum (map (λ (x : ℕ). 1) wide)) deep (λ y _. omega (arith, b.left_before_right)))

  -- The cells of a drawing that is read have at most 16,384 inner lines together.
  pub all_lines : inner_count rs ≤ 16384
  all_lines =
      let (w, h) : ℕ × ℕ = (g.width - 1, g.height - 1) in
      let row : sum (map (λ (x : ℕ). 1) (up_to w)) ≡ w = sum-each 1 (up_to w) ∙ mul-one (length (up_to w)) ∙ length-range 0 w in
      let squares : grid_weight (λ y x. 1) g ≡ h * w = sum-each (sum (map (λ (x : ℕ). 1) (up_to w))) (up_to h) ∙ rw (row, length-range 0 h) in
      let most : h * w ≤ 127 * 127 = mul-le-mul {n₂ = 127} {m₂ = 127} (omega (arith, height-of lines, (read-limited checks).few_lines)) (omega (arith, read-narrow checks)) in
      omega (
        arith,
        sum-le (λ (r : Rect). r.bottom - r.top - 1) (rect_weight (λ y x. 1)) rs rect-lines,
        cover-weight (λ y x. 1) g rs cover,
      )

  -- ---- how many bytes

  -- from a slot's byte to the next one's
  gap : ℕ → ℕ → ℕ
  gap y x = byte_at g y (x + 1) - byte_at g y x

  row-gaps : (y a b : ℕ) → y < length lines → a ≤ b → b < g.width → sum (map (gap y) (range a (b - a))) + byte_at g y a ≡ byte_at g y b
  unfolding gap
  row-gaps y a b low h wide =
      sum-distances (gap y) (byte_at g y) a (b - a)
      (λ x from to. omega (arith, rw (← add-one x) at (bytes-climb lines y x low (omega (arith, row-full y low)))))
      ∙ ap (byte_at g y) (omega arith)

  cut-bytes : (r : Rect) → Memᴰ r rs → (y : ℕ) → y < length lines → length (cut_at lines g r y).text ≤ sum (map (gap y) (range r.left (r.right - r.left)))
  cut-bytes r m y low =
      let b = (cover.first r m).bordered in
      omega (
        arith,
        cut-shorter (get_or lines y no_line) y 0 (content_at g r y) r.left,
        row-gaps y r.left r.right low (omega (arith, b.left_before_right)) b.right_inside,
      )

  rect-bytes : (r : Rect) → Memᴰ r rs → sum (map (λ y. length (cut_at lines g r y).text) (inner_lines r)) ≤ rect_weight gap r
  unfolding sum range
  rect-bytes r m =
      let b = (cover.first r m).bordered in
      let row : ℕ → ℕ = λ y. sum (map (gap y) (range r.left (r.right - r.left))) in
      let deep : r.bottom - r.top ≡ suc (r.bottom - r.top - 1) = omega (arith, b.top_above_bottom) in
      let whole : rect_weight gap r ≡ row r.top + sum (map row (inner_lines r)) = ap (λ (n : ℕ). sum (map row (range r.top n))) deep in
      omega (
        arith,
        sum-le (λ y. length (cut_at lines g r y).text) row (inner_lines r)
            (λ y n. cut-bytes r m y (let inside = range-mem (r.top + 1) (r.bottom - r.top - 1) y n in omega (arith, height-of lines, b.bottom_inside))),
      )

  line-bytes : (y : ℕ) → Memᴰ y (up_to (g.height - 1)) → sum (map (gap y) (up_to (g.width - 1))) ≤ get_or (map (λ (line : Line). length line.text) lines) y 0
  line-bytes y m =
      let low : y < length lines = omega (arith, height-of lines, range-mem 0 (g.height - 1) y m) in
      let last = g.width - 1 in
      let whole : sum (map (gap y) (range 0 (last - 0))) ≡ sum (map (gap y) (up_to last)) = ap (λ (n : ℕ). sum (map (gap y) (range 0 n))) (omega arith) in
      omega (
        arith,
        row-gaps y 0 last low (omega arith) (omega (arith, cover.wide)),
        slot-in-line lines y last low (omega (arith, row-full y low, cover.wide)),
        get_d_map (λ (line : Line). length line.text) lines y 0 no_line low,
      )

  -- The cells of a drawing that is read have at most 32,768 bytes together.
  pub all-bytes : sum (map (λ r. sum (map (λ y. length (cut_at lines g r y).text) (inner_lines r))) rs) ≤ 32768
  all-bytes =
      let lengths = map (λ (line : Line). length line.text) lines in
      let h = g.height - 1 in
      omega (
        arith,
        sum-le (λ r. sum (map (λ y. length (cut_at lines g r y).text) (inner_lines r))) (rect_weight gap) rs rect-bytes,
        cover-weight gap g rs cover,
        sum-le (λ y. sum (map (gap y) (up_to (g.width - 1)))) (λ y. get_or lengths y 0) (up_to h) line-bytes,
        sum_first lengths h (omega (arith, height-of lines, length-map lines (λ (line : Line). length line.text))),
        (read-limited checks).few_bytes,
      )

  -- ---- each line
  module _ {r : Rect} (m : Memᴰ r rs) (y : ℕ) (n : Memᴰ y (inner_lines r)) where
    inner : (r.top < y) × (y < r.bottom)
    inner = let inside = range-mem (r.top + 1) (r.bottom - r.top - 1) y n in omega arith

    low : y < length lines
    low = omega (arith, height-of lines, inner, (cover.first r m).bordered.bottom_inside)

    left-inside : r.left < length (get_or g.rows y [])
    left-inside = let b = (cover.first r m).bordered in omega (arith, row-full y low, b.left_before_right, b.right_inside)

    right-inside : r.right < length (get_or g.rows y [])
    right-inside = omega (arith, row-full y low, (cover.first r m).bordered.right_inside)

    -- A cut line has at most 512 bytes.
    pub cut_short : length (cut_at lines g r y).text ≤ 512
    cut_short =
        omega (
          arith,
          cut-shorter (get_or lines y no_line) y 0 (content_at g r y) r.left,
          slot-in-line lines y r.right low right-inside,
          text-short y low,
        )

    -- A cut line is well formed.
    pub cut-well : well_formed (cut_at lines g r y).text ≡ true
    unfolding cut
    cut-well =
        let b = (cover.first r m).bordered in
        let (above, below) : (r.top ≤ y) × (y ≤ r.bottom) = omega (arith, inner) in
        first-well (trim_end (part (content_at g r y) (text_at y))) y (0 + (content_at g r y).start) _
        (well-trimmed (part (content_at g r y) (text_at y))
        (part-well (text_at y) (byte_at g y r.left) (byte_at g y r.right) (line-well lines checks.in_set y low) (slot-in-line lines y r.left low left-inside)
        (border-byte lines y r.left low left-inside (b.left_side y above below))
        (border-byte lines y r.right low right-inside (b.right_side y above below))))
