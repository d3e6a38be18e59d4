-- What the answers of this crate mean for a table in its arrays: refusal 9 (`foot-told`) and, where that does not hold, refusal 10
-- (`misaligned-told`), and for whoever draws colons the alignment line (`alignment-row`) and the corners on it (`corner-told`).
-- `tabled-markable`: its corners can be marked.
use Prim.Native.Nat.{ℕ, zero, suc, ◌+◌, ◌*◌, ◌≤◌, ◌<◌}
use mathlib.Core.Path.{◌≡◌, refl, sym, ap, ap₂, ◌∙◌}
use mathlib.Core.Bool.{Bool, true, false, not, ◌&&◌, ◌||◌, cond}
use mathlib.Core.Logic.{⊎_elim}
use mathlib.Core.List.{List, [], ◌∷◌, ◌++◌, map, Memᴰ}
use native.Mathlib.Omega.{arith}
use lib.Dec.{eqb}
use lib.ListN.{length, get_or, length-map}
use lib.Seq.{ext_get_or}
use borrow.Author.Tests.{eqb-true, ne_eqb}
use Rattle.seq.specs.Lists.{up_to, any, count, find, select, or_default}
use Rattle.seq.proofs.Tests.{true-not-false, le-or-lt, bit}
use Rattle.seq.proofs.Positions.{get_or-made}
use Rattle.seq.proofs.Ranges.{range-mem, length-range}
use Rattle.seq.proofs.Searches.{any-map, any-agree, count-cons, count-few}
use Rattle.seq.proofs.Walks.{eqb_same}
use Rattle.grid.specs.Values.{GridTableColumn, TableCell, Table}
use Rattle.grid.specs.Flat.{code_alignment, code_section, split_text}
use Rattle.grid.specs.Layout.{first_of}
use Rattle.grid.specs.declared.TableAlignment.TheVariants.{None}
use Rattle.drawing.specs.GridRules.{is_head, is_foot}
use Rattle.drawing.specs.Sizes.{widths, heights, offsets}
use Rattle.drawing.specs.Plain.{Canvas, Box, box_of, unless_zero, rule_lines, canvas_at, canvas_of, is_edge, corner_at, alignment_row, has_left_colon, has_right_colon, column_alignment}
use Rattle.drawing.specs.Redraw.{foot_without_head, colons_misplaced, misaligned}
use Rattle.drawing.proofs.AlignmentsBack.{colons_misplaced-is}
use Rattle.drawing.proofs.CanvasLaws.{Fine, x_at, y_at, canvas-columns, x_at-same, y_at-up}
use Rattle.drawing.proofs.KeptLaws.{Lies}
use Rattle.drawing.proofs.OffsetLaws.{offsets-zero}
use Rattle.drawing.proofs.RoundTrip.{keeps-fine}
use Rattle.representation.specs.TableIn.{table_in, no_cell, cell_in, Tabled}
use Rattle.representation.proofs.TableInLaws.{columns-length, columns-at, cells-length, cells_at}
use Rattle.reading.specs.Checks.{place_of}
use Rattle.std.proofs.Common.{Option}
use Rattle.sizes.proofs.FactLaws.{Facts, tabled-facts}
use Rattle.alignment.specs.Corners.{any_corner, Markable, Cornered, lacks_corner}

-- ---- tests
any-count : {A : Type 0} (test : A → Bool) (l : List A) → any test l ≡ not (eqb (count test l) 0)
unfolding any select
any-count test [] = refl
any-count test (a ∷ l) = rw (count-cons test a l) (go (test a) (any-count test l)) where
  go : (t : Bool) → any test l ≡ not (eqb (count test l) 0) → t || any test l ≡ not (eqb (bit t + count test l) 0)
  go true e = rw (ne_eqb (1 + count test l) 0 (λ z. omega arith))
  go false e = let z : 0 + count test l ≡ count test l = omega arith in rw z e

find-agree : (test other : ℕ → Bool) (l : List ℕ) → ((a : ℕ) → Memᴰ a l → test a ≡ other a) → find test l ≡ find other l
unfolding find
find-agree test other [] same = refl
find-agree test other (a ∷ l) same = rw (same a (Memᴰ.head refl), find-agree test other l (λ b m. same b (Memᴰ.tail m)))

aligned-code : (code : ℕ) → code < 4 → has_left_colon (code_alignment code) || has_right_colon (code_alignment code) ≡ not (eqb code 0)
aligned-code zero few = refl
aligned-code (suc zero) few = refl
aligned-code (suc (suc zero)) few = refl
aligned-code (suc (suc (suc zero))) few = refl
aligned-code (suc (suc (suc (suc code)))) few = absurd (omega arith)

module _ {origin columns n : ℕ} {cols sections cells lengths text : List ℕ} (t : Tabled origin columns n cols sections cells lengths text) where
  abbrev table : Table
  table = table_in columns n cols sections cells lengths text

  abbrev v : Canvas
  v = canvas_of table

  facts : Facts columns n cols sections cells lengths text
  facts = tabled-facts t

  F : Fine table
  F = keeps-fine t.keeps

  pub tabled-markable : Markable cells n
  tabled-markable =
      record {
        few = facts.few_cells;
        room = facts.cells_room;
        low = λ k h. let e : 5 * k + 0 ≡ 5 * k = omega arith in omega (arith, rw e at (facts.down.inside k h), facts.few_rows);
        near = λ k h. omega (arith, facts.across.inside k h, facts.few_columns);
      }

  -- ---- 9
  module _ {heads foots : ℕ} (told : (heads ≡ count is_head (map code_section sections)) × (foots ≡ count is_foot (map code_section sections))) where
    pub foot-told : not (eqb foots 0) && eqb heads 0 ≡ foot_without_head table
    unfolding foot_without_head
    foot-told = rw (any-count is_head table.sections, any-count is_foot table.sections, ← told.0, ← told.1) (go (eqb heads 0)) where
      go : (z : Bool) → not (eqb foots 0) && z ≡ not (eqb foots 0) && not (not z)
      go true = refl
      go false = refl

    -- ---- the alignment line is the row line below the Head rows
    module _ (headed : foot_without_head table ≡ false) where
      first-rule : (ys later : List ℕ) → get_or ys 0 0 ≡ 0
          → or_default 0 (first_of (unless_zero heads (get_or ys heads 0 ∷ []) ++ unless_zero foots later)) ≡ get_or ys heads 0
      first-rule ys later start = go (eqb heads 0) (eqb foots 0) refl (foot-told ∙ headed) where
        go : (no_head no_foot : Bool) → eqb heads 0 ≡ no_head → not no_foot && no_head ≡ false
            → or_default 0 (first_of (cond no_head [] (get_or ys heads 0 ∷ []) ++ cond no_foot [] later)) ≡ get_or ys heads 0
        go true true z e = rw (eqb-true heads 0 z) (sym start)
        go true false z e = absurd (true-not-false e)
        go false no_foot z e = refl

      pub alignment-row : alignment_row v ≡ y_at table heads
      unfolding canvas_of canvas_at rule_lines
      alignment-row =
          rw (← told.0, ← told.1) (first-rule (offsets (heights table)) _ (offsets-zero 0 (heights table)))

      -- ---- the corners on it
      heads-inside : heads ≤ length table.sections
      heads-inside = omega (arith, told.0, count-few is_head table.sections)

      y_at-same : (i j : ℕ) → i ≤ length table.sections → j ≤ length table.sections → y_at table i ≡ y_at table j → i ≡ j
      y_at-same i j a b e =
          ⊎_elim (λ (h : i ≤ j). ⊎_elim (λ (g : j ≤ i). omega arith) (λ (g : i < j). absurd (omega (arith, y_at-up F i j g b))) (le-or-lt j i))
          (λ (h : j < i). absurd (omega (arith, y_at-up F j i h a))) (le-or-lt i j)

      -- a cell's edges are its lines
      module _ (k : ℕ) (low : k ≤ length table.columns) (c : TableCell) (s : Lies table c) where
        row-edge : is_edge (y_at table c.row) (y_at table (c.row + c.rowspan)) (y_at table heads) ≡ is_edge c.row (c.row + c.rowspan) heads
        row-edge = ap₂ (λ (a b : Bool). a || b) (same c.row (omega (arith, s.low))) (same (c.row + c.rowspan) s.low) where
          same : (j : ℕ) → j ≤ length table.sections → eqb (y_at table heads) (y_at table j) ≡ eqb heads j
          same j h = eqb_same (y_at table heads) (y_at table j) heads j (y_at-same heads j heads-inside h) (ap (y_at table))

        column-edge : is_edge (x_at table c.column) (x_at table (c.column + c.colspan)) (x_at table k) ≡ is_edge c.column (c.column + c.colspan) k
        column-edge = ap₂ (λ (a b : Bool). a || b) (same c.column (omega (arith, s.near))) (same (c.column + c.colspan) s.near) where
          same : (j : ℕ) → j ≤ length table.columns → eqb (x_at table k) (x_at table j) ≡ eqb k j
          same j h = eqb_same (x_at table k) (x_at table j) k j (x_at-same F k j low h) (ap (x_at table))

      cells-made : table.cells ≡ map (cell_in cells (split_text lengths text)) (up_to n)
      cells-made =
          let e = cells-length n cells (split_text lengths text) in
          let f = length-map (up_to n) (cell_in cells (split_text lengths text)) ∙ length-range 0 n in
          ext_get_or no_cell table.cells (map (cell_in cells (split_text lengths text)) (up_to n)) (e ∙ sym f)
          (λ k h. cells_at n cells (split_text lengths text) k no_cell (omega (arith, e)) ∙ sym (get_or-made (cell_in cells (split_text lengths text)) n k no_cell (omega (arith, e))))

      abbrev meets : ℕ → TableCell → Bool
      meets k c = is_edge c.row (c.row + c.rowspan) heads && is_edge c.column (c.column + c.colspan) k

      corner-any : (k : ℕ) → k ≤ length table.columns → corner_at v (y_at table heads) (x_at table k) ≡ any_corner cells n heads k
      unfolding corner_at canvas_of canvas_at box_of
      corner-any k low =
          any-map (box_of (offsets (widths table)) (offsets (heights table)))
          (λ (b : Box). is_edge b.frame.top b.frame.bottom (y_at table heads) && is_edge b.frame.left b.frame.right (x_at table k)) table.cells
          ∙ any-agree _ (meets k) table.cells (λ c m. ap₂ (λ (a b : Bool). a && b) (row-edge k low c (F.rules.lies c m)) (column-edge k low c (F.rules.lies c m)))
          ∙ ap (any (meets k)) cells-made ∙ any-map (cell_in cells (split_text lengths text)) (meets k) (up_to n)

      module _ {marks : List ℕ} (c : Cornered cells n heads marks) where
        columns-few : (k : ℕ) → k ≤ columns → k ≤ length table.columns
        columns-few k low = omega (arith, columns-length columns cols)

        mark-told : (k : ℕ) → k ≤ columns → any_corner cells n heads k ≡ eqb (get_or marks k 0) 1
        mark-told k low = rw (c.marked k (omega (arith, facts.few_columns))) (go (any_corner cells n heads k)) where
          go : (t : Bool) → t ≡ eqb (cond t 1 0) 1
          go true = refl
          go false = refl

        -- On the alignment line there is a corner at column line k where it is marked.
        pub corner-told : (k : ℕ) → k ≤ columns → corner_at v (alignment_row v) (x_at table k) ≡ eqb (get_or marks k 0) 1
        corner-told k low = rw alignment-row (corner-any k (columns-few k low) ∙ mark-told k low)

        -- ---- 10
        lacks-told : (k : ℕ) → k < columns → lacks_corner cols marks k ≡ colons_misplaced v k (column_alignment v k)
        unfolding canvas_of canvas_at
        lacks-told k h =
            let alignment : column_alignment v k ≡ code_alignment (get_or cols (2 * k) 0) =
            ap (λ (c : GridTableColumn). c.alignment) (columns-at columns cols k (record { alignment = None; width = 0 }) h) in
            sym (colons_misplaced-is F origin k (omega (arith, columns-length columns cols)) (column_alignment v k)
            ∙ rw (corner-told k (omega arith), alignment, aligned-code (get_or cols (2 * k) 0) (facts.codes k h))
            (ap (λ (b : Bool). not (eqb (get_or cols (2 * k) 0) 0) && b) unmarked)) where
              unmarked : not (eqb (get_or marks k 0) 1) ≡ eqb (get_or marks k 0) 0
              unmarked = rw (c.marked k (omega (arith, facts.few_columns))) (go (any_corner cells n heads k)) where
                go : (t : Bool) → not (eqb (cond t 1 0) 1) ≡ eqb (cond t 1 0) 0
                go true = refl
                go false = refl

        -- The column that the search finds is that of refusal 10.
        pub misaligned-told : (r : Option ℕ) → place_of r ≡ find (lacks_corner cols marks) (up_to columns) → place_of r ≡ misaligned v
        unfolding misaligned
        misaligned-told r found =
            found ∙ find-agree (lacks_corner cols marks) (λ k. colons_misplaced v k (column_alignment v k)) (up_to columns) (λ k m. lacks-told k (omega (arith, range-mem 0 columns k m)))
            ∙ ap (λ (n : ℕ). find (λ k. colons_misplaced v k (column_alignment v k)) (up_to n)) (sym (ap length (canvas-columns table) ∙ columns-length columns cols))
