-- The checks of a page up to 8: 13 (`wrong-sizes`, `sum-and-codes`), 2 (`large-told`), and what each return answers (`contradicted` to `kept`).
use Prim.Native.Nat.{ℕ, zero, suc, ◌*◌, ◌≤◌, ◌<◌}
use mathlib.Core.Path.{◌≡◌, refl, sym, ap, ◌∙◌}
use mathlib.Core.Bool.{Bool, true, false, not, ◌&&◌, ◌||◌}
use mathlib.Core.List.{List, [], ◌∷◌}
use native.Mathlib.Omega.{arith}
use lib.Dec.{eqb, ltb}
use lib.ListN.{length, get_or, length-map}
use borrow.Author.Tests.{eqb-true, eq-eqb, ne_eqb, not-false, ltb-false}
use Rattle.seq.specs.Lists.{sum, all, neighbours}
use Rattle.seq.proofs.Tests.{and_assoc, both_true, and-false, or-neither}
use Rattle.seq.proofs.Positions.{get_or-mem}
use Rattle.seq.proofs.Sorted.{sorted_tail}
use Rattle.grid.specs.Answer.{Answer, refuse}
use Rattle.grid.specs.Values.{TableCell, Table}
use Rattle.grid.specs.Flat.{code_section, columns_of_array, every_nth, length_is}
use Rattle.drawing.specs.GridRules.{comes_before, keeps_rules}
use Rattle.drawing.specs.Redraw.{table_empty, shape_too_large}
use Rattle.drawing.proofs.KeptLaws.{Kept, keeps_rules-kept}
use Rattle.drawing.proofs.LimitLaws.{shape-limits}
use Rattle.html.specs.PageCall.{PageSizes, PageArrays, page_contradicts, page_table, page_too_large, page_bytes, page_accepts}
use Rattle.representation.specs.TableIn.{counts_in, no_cell}
use Rattle.representation.proofs.TableInLaws.{columns-length, cells-length, cells_at}
use Rattle.table_checks.specs.Entries.{entries}
use Rattle.table_checks.specs.Places.{places_of, grid_in, CellsPlaced}
use Rattle.table_checks.proofs.PlaceLaws.{rules-agree}
use Rattle.table_checks.proofs.arrays.ArrayLaws.{sized-agree}
use Rattle.table_checks.proofs.cover.SquareLaws.{later_rows}
use Rattle.html_page.specs.Paged.{Paged}
use Rattle.html_page.specs.Call.{page_within}
use Rattle.html_page.proofs.PageCellLaws.{page_cells-length, page_cells-places}

-- ---- 13
module _ (s : PageSizes) (t : PageArrays) where
  -- the sizes of the arrays that a table has as well
  abbrev shaped : Bool
  shaped = length_is t.columns (2 * s.columns) && length_is t.sections s.rows && length_is t.cells (5 * s.cells)

  pub unshaped : shaped ≡ false → true ≡ page_contradicts s t
  unfolding page_contradicts
  unshaped e = rw e

  pub bytes-wrong : (length t.inner ≡ s.bytes → ⊥) → true ≡ page_contradicts s t
  unfolding page_contradicts
  bytes-wrong e = rw (ne_eqb (length t.inner) s.bytes e, and-false shaped)

  module _ (sized : shaped ≡ true) (b : length t.inner ≡ s.bytes) where
    pub columns-room : length t.columns ≡ 2 * s.columns
    columns-room = (sized-agree s.columns s.rows s.cells t.columns t.sections t.cells sized).0

    pub cells-room : 5 * s.cells ≤ length t.cells
    cells-room = omega (arith, (sized-agree s.columns s.rows s.cells t.columns t.sections t.cells sized).2)

    abbrev filled : Bool
    filled = eqb (sum (entries 4 5 s.cells t.cells)) s.bytes

    abbrev coded : Bool
    coded = all (λ code. ltb code 4) (every_nth 2 s.columns t.columns) && all (λ code. ltb code 3) t.sections

    apart : page_contradicts s t ≡ not (filled && coded)
    unfolding page_contradicts
    apart =
        let p = all (λ code. ltb code 4) (every_nth 2 s.columns t.columns) in
        let q = all (λ code. ltb code 3) t.sections in
        rw (sized, eq-eqb (length t.inner) s.bytes b) (ap not (and_assoc (eqb (sum (entries 4 5 s.cells t.cells)) s.bytes) p q))

    pub unfilled : false ≡ filled → true ≡ page_contradicts s t
    unfilled e = sym (apart ∙ rw (← e))

    pub codes-left : true ≡ filled → {c : Bool} → c ≡ coded → not c ≡ page_contradicts s t
    codes-left e g = sym (apart ∙ rw (← e, ← g))

-- arrays without a contradiction
record Agreed (s : PageSizes) (t : PageArrays) : Type 0 where
  pub cols_room : length t.columns ≡ 2 * s.columns
  pub rows_agree : length t.sections ≡ s.rows
  pub cells_room : length t.cells ≡ 5 * s.cells
  pub bytes_agree : length t.inner ≡ s.bytes
  pub sum_agrees : sum (counts_in s.cells t.cells) ≡ s.bytes
  pub section_codes : all (λ code. ltb code 3) t.sections ≡ true

agreed : (s : PageSizes) (t : PageArrays) → page_contradicts s t ≡ false → Agreed s t
unfolding page_contradicts
agreed s t e =
    let p₃ = length_is t.columns (2 * s.columns) && length_is t.sections s.rows && length_is t.cells (5 * s.cells) in
    let p₄ = length_is t.inner s.bytes in
    let p₅ = eqb (sum (counts_in s.cells t.cells)) s.bytes in
    let p₆ = all (λ code. ltb code 4) (every_nth 2 s.columns t.columns) in
    let (q₆, codes) = both_true (p₃ && p₄ && p₅ && p₆) (all (λ code. ltb code 3) t.sections) (not-false _ e) in
    let (q₄, summed) = both_true (p₃ && p₄) p₅ (both_true (p₃ && p₄ && p₅) p₆ q₆).0 in
    let (q₃, whole) = both_true p₃ p₄ q₄ in
    let (wide, tall, celled) = sized-agree s.columns s.rows s.cells t.columns t.sections t.cells q₃ in
    record {
      cols_room = wide;
      rows_agree = tall;
      cells_room = celled;
      bytes_agree = eqb-true (length t.inner) s.bytes whole;
      sum_agrees = eqb-true (sum (counts_in s.cells t.cells)) s.bytes summed;
      section_codes = codes;
    }

-- ---- 2
pub large-told : (s : PageSizes) (t : PageArrays) {a : Bool}
    → ((u : Table) → u.columns ≡ columns_of_array s.columns t.columns → length u.sections ≡ length t.sections → length u.cells ≡ s.cells → a ≡ shape_too_large u)
    → a || ltb 32768 s.bytes ≡ page_too_large s (page_table s t)
unfolding page_too_large page_table
large-told s t told =
    ap (λ shape. shape || ltb 32768 s.bytes) (told (page_table s t) refl (length-map t.sections code_section) (page_cells-length s.cells t.cells t.inner))

-- ---- 8: rows rise with the cells
rows-rise : (l : List TableCell) → neighbours comes_before l ≡ true → (i j : ℕ) → i ≤ j → j < length l → (get_or l i no_cell).row ≤ (get_or l j no_cell).row
rows-rise [] e i j u w = absurd (omega arith)
rows-rise (c ∷ l) e zero zero u w = omega arith
rows-rise (c ∷ l) e zero (suc j) u w = later_rows c l e (get_or-mem l j no_cell (omega arith))
rows-rise (c ∷ l) e (suc i) zero u w = absurd (omega arith)
rows-rise (c ∷ l) e (suc i) (suc j) u w = rows-rise l (sorted_tail comes_before c l e) i j (omega arith) (omega arith)

-- ---- the returns
module _ (s : PageSizes) (t : PageArrays) where
  abbrev table : Table
  table = page_table s t

  abbrev grid : Table
  grid = grid_in s.columns s.cells t.sections t.cells

  abbrev Answers : Answer (List ℕ) → Bool → List ℕ → Type 0
  Answers r widths out = r ≡ page_accepts widths s t out

  rules-told : keeps_rules table ≡ keeps_rules grid
  unfolding page_table
  rules-told =
      rules-agree table grid (columns-length s.columns t.columns ∙ sym (columns-length s.columns [])) refl
      (page_cells-places s.cells t.cells t.inner)

  module _ {a : Bool} (a-told : a ≡ page_contradicts s t) where
    pub check_page-contradicted : a ≡ true → (widths : Bool) (out : List ℕ) → Answers (refuse 13 0) widths out
    unfolding page_accepts
    check_page-contradicted e widths out = rw (← a-told, e)

    module _ (fit : a ≡ false) where
      all-agreed : Agreed s t
      all-agreed = agreed s t (sym a-told ∙ fit)

      pub room-for-columns : length t.columns ≡ 2 * s.columns
      room-for-columns = all-agreed.cols_room

      module _ {b : Bool}
          (b-told : (u : Table) → length u.columns ≡ s.columns → length u.sections ≡ s.rows → length u.cells ≡ s.cells → b ≡ table_empty u) where
        is-empty : b ≡ table_empty table
        unfolding page_table
        is-empty =
            b-told table (columns-length s.columns t.columns) (length-map t.sections code_section ∙ all-agreed.rows_agree)
            (page_cells-length s.cells t.cells t.inner)

        pub check_page-empty : b ≡ true → (widths : Bool) (out : List ℕ) → Answers (refuse 1 0) widths out
        unfolding page_accepts page_bytes
        check_page-empty e widths out = rw (← a-told, fit, ← is-empty, e)

        module _ (some : b ≡ false) {l : Bool} (is-large : l ≡ page_too_large s table) where
          pub check_page-large : l ≡ true → (widths : Bool) (out : List ℕ) → Answers (refuse 2 0) widths out
          unfolding page_accepts page_bytes
          check_page-large e widths out = rw (← a-told, fit, ← is-empty, some, ← is-large, e)

          module _ (small : l ≡ false) where
            limits : (s.columns ≤ 127) × (length t.sections ≤ 127) × (s.cells ≤ 1024) × (s.bytes ≤ 32768)
            unfolding page_too_large page_table
            limits =
                let (shape, bytes) = or-neither (shape_too_large table) (ltb 32768 s.bytes) (sym is-large ∙ small) in
                let few = shape-limits table shape in (
                  omega (arith, few.columns, columns-length s.columns t.columns),
                  omega (arith, few.rows, length-map t.sections code_section),
                  omega (arith, few.cells, page_cells-length s.cells t.cells t.inner),
                  ltb-false 32768 s.bytes bytes,
                )

            pub check_page-placed : CellsPlaced s.columns s.cells t.sections t.cells
            check_page-placed = record { cells_room = all-agreed.cells_room; narrow = limits.0; low = limits.1; codes = all-agreed.section_codes }

            module _ {k : Bool} (k-told : k ≡ keeps_rules grid) where
              pub check_page-broken : not k ≡ true → (widths : Bool) (out : List ℕ) → Answers (refuse 8 0) widths out
              unfolding page_accepts page_bytes
              check_page-broken e widths out = rw (← a-told, fit, ← is-empty, some, ← is-large, small, rules-told, ← k-told, e)

              pub check_page-kept : not k ≡ false → (widths : Bool) (out : List ℕ) → Answers (page_within widths table out) widths out
              unfolding page_accepts page_bytes page_within
              check_page-kept e widths out = sym (rw (← a-told, fit, ← is-empty, some, ← is-large, small, rules-told, ← k-told, e) refl)

              pub check_page-paged : not k ≡ false → Paged s.columns s.cells t.columns t.sections t.cells t.inner
              check_page-paged e = paged where
                facts : Kept grid
                facts = keeps_rules-kept grid (sym k-told ∙ not-false k e)

                here : (i : ℕ) → i < s.cells → i < length (places_of s.cells t.cells)
                here i h = omega (arith, cells-length s.cells t.cells [])

                paged : Paged s.columns s.cells t.columns t.sections t.cells t.inner
                paged =
                    record {
                      cols_room = all-agreed.cols_room;
                      few_columns = limits.0;
                      few_rows = limits.1;
                      codes = all-agreed.section_codes;
                      celled = record {
                        few = limits.2;
                        cells_room = all-agreed.cells_room;
                        bytes_agree = all-agreed.sum_agrees ∙ sym all-agreed.bytes_agree;
                        small = omega (arith, all-agreed.bytes_agree, limits.3);
                        column = λ i h.
                            let lies = rw (cells_at s.cells t.cells [] i no_cell h) at (facts.lies _ (get_or-mem (places_of s.cells t.cells) i no_cell (here i h))) in
                            omega (arith, all-agreed.cols_room, lies.near, lies.broad, columns-length s.columns []);
                        rising = λ i j u w.
                            rw (cells_at s.cells t.cells [] i no_cell (omega arith), cells_at s.cells t.cells [] j no_cell w) at
                            (rows-rise (places_of s.cells t.cells) facts.ordered i j u (here j w));
                      };
                    }
