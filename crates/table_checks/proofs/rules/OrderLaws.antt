-- Laws of cells in order and inside the grid.
use Prim.Native.Nat.{ℕ, ◌+◌, ◌-◌, ◌*◌, ◌≤◌, ◌<◌}
use mathlib.Core.Path.{◌≡◌, refl, subst, ◌∙◌}
use mathlib.Core.Bool.{Bool, true, false, ◌&&◌, ◌||◌}
use mathlib.Core.List.{List, []}
use native.Mathlib.Omega.{arith}
use lib.Dec.{eqb, leb, ltb}
use lib.ListN.{length, get_or, drop, length-map}
use borrow.Author.Tests.{lt-ltb, le-leb, lt-leb}
use Rattle.seq.proofs.Tests.{and-false}
use Rattle.seq.specs.Lists.{all, neighbours}
use Rattle.seq.proofs.Searches.{all-mem}
use Rattle.seq.proofs.Positions.{get_or-mem}
use Rattle.grid.specs.Values.{TableCell}
use Rattle.grid.specs.Flat.{code_section}
use Rattle.drawing.specs.GridRules.{comes_before, stays_inside, all_inside}
use Rattle.drawing.proofs.KeptLaws.{Lies, stays-lies}
use Rattle.representation.specs.TableIn.{no_cell}
use Rattle.representation.proofs.TableInLaws.{cells-length, cells_at, columns-length}
use Rattle.table_checks.specs.Entries.{entry_in}
use Rattle.table_checks.specs.Places.{places_of, grid_in, CellsPlaced, Within, Laid}
use Rattle.table_checks.proofs.WalkLaws.{all-fails, all-passes, all_done, neighbours-fail, neighbours-pass, neighbours-done}

-- ---- in order
module _ (n k : ℕ) (cells : List ℕ) (passed : neighbours comes_before (places_of n cells) ≡ neighbours comes_before (drop (k - 1) (places_of n cells))) where
  -- the test of cells k - 1 and k, as the code makes it
  abbrev before : Bool
  before =
      let a = entry_in cells (k - 1) in
      let b = entry_in cells k in
      ltb a.row b.row || (eqb a.row b.row && ltb a.column b.column)

  told : 1 ≤ k → k < n → comes_before (get_or (places_of n cells) (k - 1) no_cell) (get_or (places_of n cells) (k - 1 + 1) no_cell) ≡ before
  told low h =
      let next : k - 1 + 1 ≡ k = omega arith in
      rw (next, cells_at n cells [] (k - 1) no_cell (omega arith), cells_at n cells [] k no_cell h)

  pub order-broken : 1 ≤ k → k < n → before ≡ false → false ≡ neighbours comes_before (places_of n cells)
  order-broken low h e =
      neighbours-fail comes_before (places_of n cells) (k - 1) no_cell (neighbours comes_before (places_of n cells)) passed
      (omega (arith, cells-length n cells [])) (told low h ∙ e)

  pub order-kept : 1 ≤ k → k < n → before ≡ true
      → neighbours comes_before (places_of n cells) ≡ neighbours comes_before (drop (k + 1 - 1) (places_of n cells))
  order-kept low h e =
      let next : k - 1 + 1 ≡ k + 1 - 1 = omega arith in
      rw next at
      (neighbours-pass comes_before (places_of n cells) (k - 1) no_cell (neighbours comes_before (places_of n cells)) passed
      (omega (arith, cells-length n cells [])) (told low h ∙ e))

  pub all-ordered : n ≤ k → true ≡ neighbours comes_before (places_of n cells)
  all-ordered h =
      neighbours-done comes_before (places_of n cells) (k - 1) no_cell (neighbours comes_before (places_of n cells)) passed (omega (arith, cells-length n cells []))

-- ---- inside
module _ (columns n : ℕ) (sections cells : List ℕ) where
  -- the test of cell k, as the code makes it
  abbrev inside : ℕ → Bool
  inside k =
      ltb 0 (get_or cells (5 * k + 2) 0) && ltb 0 (get_or cells (5 * k + 3) 0) && leb (get_or cells (5 * k + 1) 0 + get_or cells (5 * k + 2) 0) columns
      && leb (get_or cells (5 * k) 0 + get_or cells (5 * k + 3) 0) (length sections)

  inside-told : (k : ℕ) → k < n → stays_inside (grid_in columns n sections cells) (get_or (places_of n cells) k no_cell) ≡ inside k
  inside-told k h = rw (cells_at n cells [] k no_cell h, columns-length columns [], length-map sections code_section)

  pub none_yet : all_inside (grid_in columns n sections cells) ≡ all (stays_inside (grid_in columns n sections cells)) (drop 0 (places_of n cells))
  unfolding all_inside
  none_yet = refl

  module _ (k : ℕ)
      (passed : all_inside (grid_in columns n sections cells) ≡ all (stays_inside (grid_in columns n sections cells)) (drop k (places_of n cells))) where
    one_outside : k < n → inside k ≡ false → false ≡ all_inside (grid_in columns n sections cells)
    one_outside h e =
        all-fails (stays_inside (grid_in columns n sections cells)) (places_of n cells) k no_cell (all_inside (grid_in columns n sections cells)) passed
        (omega (arith, cells-length n cells [])) (inside-told k h ∙ e)

    module _ (h : k < n) where
      pub not-broad : get_or cells (5 * k + 2) 0 ≡ 0 → false ≡ all_inside (grid_in columns n sections cells)
      not-broad e = one_outside h (rw e)

      pub not-tall : get_or cells (5 * k + 3) 0 ≡ 0 → false ≡ all_inside (grid_in columns n sections cells)
      not-tall e = one_outside h (rw (e, and-false (ltb 0 (get_or cells (5 * k + 2) 0))))

      pub too-wide : columns < get_or cells (5 * k + 1) 0 + get_or cells (5 * k + 2) 0 → false ≡ all_inside (grid_in columns n sections cells)
      too-wide over =
          let spans = ltb 0 (get_or cells (5 * k + 2) 0) && ltb 0 (get_or cells (5 * k + 3) 0) in
          one_outside h (rw (lt-leb (get_or cells (5 * k + 1) 0 + get_or cells (5 * k + 2) 0) columns over, and-false spans))

      pub too-low : length sections < get_or cells (5 * k) 0 + get_or cells (5 * k + 3) 0 → false ≡ all_inside (grid_in columns n sections cells)
      too-low over =
          let spans = ltb 0 (get_or cells (5 * k + 2) 0) && ltb 0 (get_or cells (5 * k + 3) 0) in
          let wide = leb (get_or cells (5 * k + 1) 0 + get_or cells (5 * k + 2) 0) columns in
          one_outside h (rw (lt-leb (get_or cells (5 * k) 0 + get_or cells (5 * k + 3) 0) (length sections) over, and-false (spans && wide)))

      pub one_inside : (get_or cells (5 * k + 2) 0 ≡ 0 → ⊥) → (get_or cells (5 * k + 3) 0 ≡ 0 → ⊥)
          → get_or cells (5 * k + 1) 0 + get_or cells (5 * k + 2) 0 ≤ columns → get_or cells (5 * k) 0 + get_or cells (5 * k + 3) 0 ≤ length sections
          → all_inside (grid_in columns n sections cells) ≡ all (stays_inside (grid_in columns n sections cells)) (drop (k + 1) (places_of n cells))
      one_inside broad tall near low =
          let right = get_or cells (5 * k + 1) 0 + get_or cells (5 * k + 2) 0 in
          let bottom = get_or cells (5 * k) 0 + get_or cells (5 * k + 3) 0 in
          all-passes (stays_inside (grid_in columns n sections cells)) (places_of n cells) k no_cell (all_inside (grid_in columns n sections cells)) passed
          (omega (arith, cells-length n cells []))
          (inside-told k h
          ∙ rw (
            lt-ltb 0 (get_or cells (5 * k + 2) 0) (omega arith),
            lt-ltb 0 (get_or cells (5 * k + 3) 0) (omega arith),
            le-leb right columns near,
            le-leb bottom (length sections) low,
          ))

    pub none-outside : n ≤ k → true ≡ all_inside (grid_in columns n sections cells)
    none-outside h =
        all_done (stays_inside (grid_in columns n sections cells)) (places_of n cells) k no_cell (all_inside (grid_in columns n sections cells)) passed
        (omega (arith, cells-length n cells []))

  -- what the test tells of each cell
  cells-within : all_inside (grid_in columns n sections cells) ≡ true → (k : ℕ) → k < n → Within columns (length sections) cells k
  unfolding all_inside
  cells-within e k h =
      let here = get_or-mem (places_of n cells) k no_cell (omega (arith, cells-length n cells [])) in
      let t = grid_in columns n sections cells in
      let lies = subst (λ (c : TableCell). Lies t c) (cells_at n cells [] k no_cell h)
      (stays-lies t (get_or (places_of n cells) k no_cell) (all-mem (stays_inside t) (places_of n cells) e here)) in
      record {
        broad = lies.broad;
        tall = lies.tall;
        near = omega (arith, lies.near, columns-length columns []);
        low = omega (arith, lies.low, length-map sections code_section);
      }

  pub cells-laid : CellsPlaced columns n sections cells → all_inside (grid_in columns n sections cells) ≡ true → Laid columns n sections cells
  cells-laid placed e = record { placed = placed; within = cells-within e }
