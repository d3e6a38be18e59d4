-- The lines of a cell of a table that is read: cut, one from each inner line, with empty last ones dropped.
use Prim.Native.Nat.{ℕ, zero, suc, ◌+◌, ◌-◌, ◌≤◌, ◌<◌}
use mathlib.Core.Path.{◌≡◌, refl, sym, ap, subst, ◌∙◌}
use mathlib.Core.Bool.{Bool, true, false, cond}
use mathlib.Core.List.Memᴰ
use mathlib.Core.List.{List, [], ◌∷◌, ◌++◌, map, map-map, Memᴰ}
use native.Mathlib.Omega.{arith}
use lib.Seq.{take_at}
use lib.ListN.{length, get_or, length-map, length-append, take}
use Rattle.seq.specs.Lists.{range, sum, is_empty}
use Rattle.seq.proofs.Ranges.{length-range}
use Rattle.seq.proofs.Positions.{get_d_map}
use Rattle.seq.proofs.Rising.{rising-position, position-lt}
use Rattle.grid.specs.Values.{Line, Rect, Row, Fragment, no_line}
use Rattle.grid.specs.Slots.{Grid}
use Rattle.grid.specs.Layout.{row_lines, index_of, Between, between, section_at, rows_read, content_at, inner_lines, cell_read, layout_of}
use Rattle.grid.specs.Cut.{cut, cut_from, top_of, cell_fragments, before_dropped, drop_empty_last, table_cell}
use Rattle.grid.specs.Cover.{Cover}
use Rattle.grid.proofs.LayoutLaws.{length-between, get_d_between, row_lines-rise, top-line, bottom-line}

-- ---- empty last lines

-- what is dropped stands at the end
kept_then : (ls : List (List ℕ)) → (rest : List (List ℕ)) × (drop_empty_last ls ++ rest ≡ ls)
unfolding drop_empty_last
kept_then [] = ([], refl)
kept_then (l ∷ ls) = go (drop_empty_last ls) (kept_then ls) where
  go : (kept : List (List ℕ)) → (rest : List (List ℕ)) × (kept ++ rest ≡ ls) → (rest : List (List ℕ)) × (before_dropped l kept ++ rest ≡ l ∷ ls)
  go [] (rest, e) = ends (is_empty l) where
    ends : (t : Bool) → (rest : List (List ℕ)) × (cond t [] (l ∷ []) ++ rest ≡ l ∷ ls)
    ends true = (l ∷ rest, ap (λ (k : List (List ℕ)). l ∷ k) e)
    ends false = (rest, ap (λ (k : List (List ℕ)). l ∷ k) e)
  go (k ∷ kept) (rest, e) = (rest, ap (λ (k : List (List ℕ)). l ∷ k) e)

module _ (ls : List (List ℕ)) where
  pub dropped-fewer : length (drop_empty_last ls) ≤ length ls
  dropped-fewer = let (rest, e) = kept_then ls in omega (arith, ap length e, length-append (drop_empty_last ls) rest)

  dropped-mem : {l : List ℕ} → Memᴰ l (drop_empty_last ls) → Memᴰ l ls
  dropped-mem {l} m = let (rest, e) = kept_then ls in subst (λ (k : List (List ℕ)). Memᴰ l k) e (Memᴰ.append_left rest m)

  pub dropped-first : drop_empty_last ls ≡ take (length (drop_empty_last ls)) ls
  dropped-first =
      let (rest, e) = kept_then ls in
      sym (ap (take (length (drop_empty_last ls))) (sym e) ∙ take_at (drop_empty_last ls) rest (length (drop_empty_last ls)) refl)

pub dropped-bytes : (ls : List (List ℕ)) → sum (map length (drop_empty_last ls)) ≡ sum (map length ls)
unfolding drop_empty_last sum
dropped-bytes [] = refl
dropped-bytes (l ∷ ls) = before l (drop_empty_last ls) ∙ ap (λ (n : ℕ). length l + n) (dropped-bytes ls) where
  before : (l : List ℕ) (kept : List (List ℕ)) → sum (map length (before_dropped l kept)) ≡ length l + sum (map length kept)
  before [] [] = refl
  before (b ∷ bs) [] = refl
  before l (k ∷ kept) = refl

-- ---- the cut lines of a cell

-- the cut of line y in a rectangle
abbrev pub cut_at : List Line → Grid → Rect → ℕ → Fragment
cut_at lines g r y = cut (get_or lines y no_line) y 0 (content_at g r y) r.left

module _ (lines : List Line) (g : Grid) (rs : List Rect) (cover : Cover g rs) where
  pub top-of : {r : Rect} → Memᴰ r rs → top_of (layout_of lines g rs) (cell_read g rs r) ≡ r.top
  unfolding layout_of rows_read cell_read index_of
  top-of {r} m =
      let rows = row_lines g rs in
      let nowhere : Between = record { from = 0; to = 0 } in
      let i = index_of rows r.top in
      let deep = position-lt rows (row_lines-rise g rs) (top-line cover m) (bottom-line cover m) (cover.first r m).bordered.top_above_bottom in
      let inside : suc i < length rows = omega (arith, (rising-position rows (row_lines-rise g rs) (bottom-line cover m)).inside) in
      ap (λ (l : List ℕ). get_or l i 0)
      (map-map (λ (row : Row). row.top) (λ (b : Between). record { section = section_at g b.from; top = b.from; bottom = b.to }) (between rows))
      ∙ get_d_map (λ (b : Between). b.from) (between rows) i 0 nowhere (omega (arith, length-between rows)) ∙ get_d_between rows i nowhere inside
      ∙ (rising-position rows (row_lines-rise g rs) (top-line cover m)).here

  cut-lines : (r : Rect) (y n : ℕ) → cut_from lines r.left y (map (content_at g r) (range y n)) ≡ map (cut_at lines g r) (range y n)
  unfolding cut_from range
  cut-lines r y zero = refl
  cut-lines r y (suc n) = ap (λ (l : List Fragment). cut_at lines g r y ∷ l) (cut-lines r (y + 1) n)

  pub cell_cuts_lem : {r : Rect} → Memᴰ r rs → cell_fragments lines (layout_of lines g rs) (cell_read g rs r) ≡ map (cut_at lines g r) (inner_lines r)
  unfolding cell_fragments cell_read
  cell_cuts_lem {r} m = rw (top-of m) (cut-lines r (r.top + 1) (r.bottom - r.top - 1))

  module _ {r : Rect} (m : Memᴰ r rs) where
    -- the lines of the table's cell
    abbrev pub lines_in : List (List ℕ)
    lines_in = (table_cell lines (layout_of lines g rs) (cell_read g rs r)).lines

    pub cell-lines : lines_in ≡ drop_empty_last (map (λ y. (cut_at lines g r y).text) (inner_lines r))
    unfolding table_cell
    cell-lines = ap drop_empty_last (ap (map (λ (f : Fragment). f.text)) (cell_cuts_lem m) ∙ map-map (λ (f : Fragment). f.text) (cut_at lines g r) (inner_lines r))

    pub cell-fewer : length lines_in ≤ r.bottom - r.top - 1
    cell-fewer =
        omega (
          arith,
          ap length cell-lines,
          dropped-fewer (map (λ y. (cut_at lines g r y).text) (inner_lines r)),
          length-map (inner_lines r) (λ y. (cut_at lines g r y).text),
          length-range (r.top + 1) (r.bottom - r.top - 1),
        )

    pub cell-bytes : sum (map length lines_in) ≤ sum (map (λ y. length (cut_at lines g r y).text) (inner_lines r))
    cell-bytes =
        omega (
          arith,
          ap (λ (l : List (List ℕ)). sum (map length l)) cell-lines,
          dropped-bytes (map (λ y. (cut_at lines g r y).text) (inner_lines r)),
          ap sum (map-map length (λ y. (cut_at lines g r y).text) (inner_lines r)),
        )

    -- each comes from an inner line
    pub cell-line : {line : List ℕ} → Memᴰ line lines_in → (y : ℕ) × Memᴰ y (inner_lines r) × ((cut_at lines g r y).text ≡ line)
    cell-line {line} n =
        Memᴰ.of_map (λ y. (cut_at lines g r y).text) (inner_lines r)
        (dropped-mem (map (λ y. (cut_at lines g r y).text) (inner_lines r)) (subst (λ (l : List (List ℕ)). Memᴰ line l) cell-lines n))
